-- Columns are those of a value only where writing gives them.
use Rattle.std.proofs.Common.{◌≡◌, List, ℕ, Some, None, sym, ap, ◌∙◌}
use Rattle.quantity.specs.declared.value.Value.{Value}
use Rattle.quantity.specs.declared.value.Value.TheVariants.{Missing, Known}
use Rattle.quantity.specs.Values.{stands_for, value_of}
use Rattle.values.specs.Numbers.{amount_of}
use Rattle.values.specs.Writing.{trim_start, written}
use Rattle.values.specs.Laws.{Held}
use Rattle.values.proofs.Back.{standing, stands, amount_back}

held : (v : Value) → Held (value_of v)
held Missing = tt
held (Known a) = a.ok

module _ (s : List ℕ) (v : Value) (is : s ≡ written (value_of v)) where
  amount_is : amount_of (trim_start s) ≡ Some (stands_for (value_of v))
  amount_is = ap (λ l. amount_of (trim_start l)) is ∙ amount_back (value_of v) (held v)

  pub no_amount : None ≡ amount_of (trim_start s) → ⊥
  no_amount e = let m = amount_is in cc

  pub same_value : (w : Value) → Some (stands_for (value_of w)) ≡ amount_of (trim_start s) → s ≡ written (value_of w)
  same_value w e =
      let m = amount_is in
      let f : stands_for (value_of v) ≡ stands_for (value_of w) = cc in
      is ∙ ap written (sym (stands (value_of v) (held v)) ∙ ap standing f ∙ stands (value_of w) (held w))
