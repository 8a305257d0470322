-- What a checked code tells of its check.
use Rattle.std.proofs.Common.{◌≡◌, ℕ, Bool, true, false, cond, ◌&&◌, eqb, List, length, get_or, is_some, Some, None, sym, refl, ap, ◌∙◌, subst}
use Rattle.std.proofs.lemmas.Bool.{cond-true, cond-false, and_parts}
use Rattle.std.proofs.lemmas.Option.{cond_some}
use Rattle.quantity.specs.Elements.{element_of}
use Rattle.quantity.specs.declared.code.Code.{Code}
use Rattle.quantity.specs.Codes.{full_code, checked_code, duration_fits}
use Rattle.quantity.specs.Parameters.{parameter_from}

refused : {X : Type 0} (b : Bool) (y : X) → None ≡ cond b (Some y) None → b ≡ false
refused true y e = cc
refused false y e = refl

module _ (signs : List ℕ) (n : ℕ) where
  pub no_code : None ≡ checked_code signs → None ≡ parameter_from signs n
  no_code e = let f = refused (full_code signs) signs e in sym (cond-false _ _ _ (ap (λ b. b && duration_fits signs n) f))

  pub granted : (code : List ℕ) → Some code ≡ checked_code signs → duration_fits code n ≡ true → Some (code, n) ≡ parameter_from signs n
  granted code e t =
      let p = cond_some (full_code signs) signs code (sym e) in
      let u : duration_fits signs n ≡ true = subst (λ cs. duration_fits cs n ≡ true) (sym p.1) t in
      ap (λ cs. Some (cs, n)) (sym p.1) ∙ sym (cond-true _ _ _ (ap (λ b. b && duration_fits signs n) p.0 ∙ u))

  pub denied : (code : List ℕ) → Some code ≡ checked_code signs → duration_fits code n ≡ false → None ≡ parameter_from signs n
  denied code e t =
      let p = cond_some (full_code signs) signs code (sym e) in
      let u : duration_fits signs n ≡ false = subst (λ cs. duration_fits cs n ≡ false) (sym p.1) t in
      sym (cond-false _ _ _ (ap (λ b. b && duration_fits signs n) p.0 ∙ u))

-- a full code has an element
pub element_known : (c : Code) → is_some (element_of (get_or c.signs 0 0) (get_or c.signs 1 0)) ≡ true
element_known c = (and_parts (is_some (element_of (get_or c.signs 0 0) (get_or c.signs 1 0))) _ (and_parts (eqb (length c.signs) 7) _ c.ok).1).0
