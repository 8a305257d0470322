-- What the columns of a line give.
use Rattle.std.proofs.Common.{◌≡◌, ℕ, Bool, true, false, cond, eqb, List, ℤ, IfSome, Some, None, Option, sym, ap, ◌∙◌}
use Rattle.std.proofs.lemmas.Bool.{cond-true}
use Rattle.quantity.specs.Amounts.{holdable}
use Rattle.quantity.specs.Values.{value_of}
use Rattle.quantity.specs.declared.value.Value.{Value}
use Rattle.quantity.specs.declared.value.Value.TheVariants.{Missing, Known}
use Rattle.values.specs.Laws.{Held}
use Rattle.values.specs.Writing.{written}
use Rattle.values.proofs.Back.{apart}
use Rattle.record.specs.Stations.{station_text}
use Rattle.text.specs.Signs.{capital}
use Rattle.line.specs.Lines.{or_blank, revision_sign}

pub none-some : {A : Type 0} {x : A} {P : Type 0} → ◌≡◌ {A = Option A} None (Some x) → P
none-some {A} {x} {P} e = cc

pub some_same : {A : Type 0} {x y : A} → ◌≡◌ {A = Option A} (Some x) (Some y) → x ≡ y
some_same e = cc

pub name_back : (column text : List ℕ) → column ≡ text → station_text text ≡ true → cond (station_text column) (Some column) None ≡ Some text
name_back column text e h = ap (λ (l : List ℕ). cond (station_text l) (Some l) None) e ∙ cond-true _ _ _ h

pub letter_back : (b c : ℕ) → b ≡ c → capital c ≡ true → cond (capital b) (Some b) None ≡ Some c
letter_back b c e h = ap (λ (n : ℕ). cond (capital n) (Some n) None) e ∙ cond-true _ _ _ h

pub source_back : (column : List ℕ) (s : Option (List ℕ)) → column ≡ or_blank 8 s → IfSome s (λ text. station_text text ≡ true) → cond (station_text column) (Some column) None ≡ s
source_back column None e h = ap (λ (l : List ℕ). cond (station_text l) (Some l) None) e
source_back column (Some text) e h = name_back column text e h

pub revised_back : (b : ℕ) (r : Bool) → b ≡ revision_sign r → eqb b 49 ≡ r
revised_back b true e = ap (λ n. eqb n 49) e
revised_back b false e = ap (λ n. eqb n 49) e

pub amount_held : (v : Option ℤ) → IfSome v (λ z. holdable z ≡ true) → Held v
amount_held None h = tt
amount_held (Some z) h = h

held : (v : Value) → Held (value_of v)
held Missing = tt
held (Known a) = a.ok

pub value_back : (column : List ℕ) (v : Option ℤ) (w : Value) → IfSome v (λ z. holdable z ≡ true) → column ≡ written v → column ≡ written (value_of w) → value_of w ≡ v
value_back column v w h e f = apart (value_of w) v (held w) (amount_held v h) (sym f ∙ e)

-- a value that is written is the column of one
pub no_value : (column : List ℕ) (v : Option ℤ) → IfSome v (λ z. holdable z ≡ true) → column ≡ written v → ((w : Value) → column ≡ written (value_of w) → ⊥) → ⊥
no_value column None h e none = none Missing e
no_value column (Some z) h e none = none (Known (record { tenthousandths = z; ok = h })) e
