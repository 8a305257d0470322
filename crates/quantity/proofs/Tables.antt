-- The table of elements has each pair of letters once, and DV items give the numbers of a variable duration.
use Rattle.std.proofs.Common.{◌≡◌, ℕ, zero, suc, ◌+◌, ◌*◌, ◌/◌, ◌%◌, ◌<◌, Bool, true, not, ◌&&◌, eqb, ltb, List, [], ◌∷◌, length, get_or, AllPairs, Some, None, Option, sym, refl, ap, ◌∙◌, ⊎_elim, arith}
use Rattle.std.specs.List.{list_all}
use Rattle.std.proofs.lemmas.Bool.{cond-true, cond_both, and_parts, and_from, or_cases, lt-ltb, ltb-true, eqb-true, eq-eqb, true≢false}
use Rattle.std.proofs.lemmas.Bool.Decides.{nat_tests}
use Rattle.std.proofs.lemmas.Option.{none-some, same_Some}
use Rattle.quantity.specs.declared.element.Element.{Element}
use Rattle.quantity.specs.Elements.{elements, is_named}
use Rattle.quantity.specs.Codes.{variable_number, variable_base, plus}
use Rattle.quantity.specs.CodeLaws.{RowsDiffer, Given, VariableNumbers}

-- the rows by their letters

all_at : (t : Element → Bool) (es : List Element) (i : ℕ) (d : Element) → list_all t es ≡ true → i < length es → t (get_or es i d) ≡ true
all_at t [] i d h l = absurd (omega arith)
all_at t (e ∷ es) zero d h l = (and_parts (t e) (list_all t es) h).0
all_at t (e ∷ es) (suc i) d h l = all_at t es i d (and_parts (t e) (list_all t es) h).1 (omega arith)

differ : List Element → Bool
differ [] = true
differ (e ∷ es) = list_all (λ f. not (is_named f.first f.second e)) es && differ es

named_apart : (e f : Element) → not (is_named f.first f.second e) ≡ true → (e.first ≡ f.first) × (e.second ≡ f.second) → ⊥
named_apart e f n h =
    let is : is_named f.first f.second e ≡ true = and_from _ _ (eq-eqb e.first f.first h.0) (eq-eqb e.second f.second h.1) in
    true≢false (sym n ∙ ap not is)

pairs : (es : List Element) → differ es ≡ true → AllPairs (λ e f. (e.first ≡ f.first) × (e.second ≡ f.second) → ⊥) es
unfolding differ
pairs [] h i j d l k = absurd (omega arith)
pairs (e ∷ es) h i zero d l k = absurd (omega arith)
pairs (e ∷ es) h zero (suc j) d l k = named_apart e (get_or es j d) (all_at (λ f. not (is_named f.first f.second e)) es j d (and_parts _ (differ es) h).0 (omega arith))
pairs (e ∷ es) h (suc i) (suc j) d l k = pairs es (and_parts _ (differ es) h).1 i j d (omega arith) (omega arith)

elements_differ : differ elements ≡ true
unfolding differ elements
elements_differ = refl

pub rows_differ : RowsDiffer
rows_differ = pairs elements elements_differ

-- the numbers of DV items

made : (letter base n : ℕ) → variable_base letter ≡ Some base → n / 100 * 100 ≡ base → Given n
made letter base n is at = record {
  letter = letter;
  two = n % 100;
  gives = cond-true _ _ _ (lt-ltb (n % 100) 100 (omega arith)) ∙ ap (plus (n % 100)) is ∙ ap Some (omega arith);
}

to_item : (n : ℕ) → variable_number n ≡ true → Given n
to_item n h =
    let at : (k : ℕ) → eqb (n / 100) k ≡ true → n / 100 * 100 ≡ k * 100 = λ k e. ap (λ q. q * 100) (eqb-true (n / 100) k e) in
    ⊎_elim (λ e. made 78 0 n refl (at 0 e)) (λ h. ⊎_elim (λ e. made 72 1000 n refl (at 10 e)) (λ h. ⊎_elim (λ e. made 68 2000 n refl (at 20 e)) (λ h.
    ⊎_elim (λ e. made 77 3000 n refl (at 30 e)) (λ h. ⊎_elim (λ e. made 89 4000 n refl (at 40 e)) (λ e. made 69 6000 n refl (at 60 e))
    (or_cases _ _ h)) (or_cases _ _ h)) (or_cases _ _ h)) (or_cases _ _ h)) (or_cases _ _ h)

abbrev Base : Option ℕ → Type 0
Base None = Unit {0}
Base (Some base) = (two : ℕ) → two < 100 → variable_number (base + two) ≡ true

base_of : (letter : ℕ) → Base (variable_base letter)
base_of letter =
    cond_both (eqb letter 78) _ _ Base (λ e two h. grind (arith, nat_tests)) (λ e.
    cond_both (eqb letter 72) _ _ Base (λ e two h. grind (arith, nat_tests)) (λ e.
    cond_both (eqb letter 68) _ _ Base (λ e two h. grind (arith, nat_tests)) (λ e.
    cond_both (eqb letter 77) _ _ Base (λ e two h. grind (arith, nat_tests)) (λ e.
    cond_both (eqb letter 89) _ _ Base (λ e two h. grind (arith, nat_tests)) (λ e.
    cond_both (eqb letter 69) _ _ Base (λ e two h. grind (arith, nat_tests)) (λ e. tt))))))

item_number : (o : Option ℕ) (two n : ℕ) → Base o → two < 100 → plus two o ≡ Some n → variable_number n ≡ true
item_number None two n h l e = absurd (none-some n e)
item_number (Some base) two n h l e = ap variable_number (sym (same_Some (base + two) n e)) ∙ h two l

from_item : (n : ℕ) → Given n → variable_number n ≡ true
from_item n g =
    cond_both (ltb g.two 100) _ _ (λ o. o ≡ Some n → variable_number n ≡ true)
    (λ l e. item_number (variable_base g.letter) g.two n (base_of g.letter) (ltb-true g.two 100 l) e) (λ l e. absurd (none-some n e)) g.gives

pub variable_numbers : VariableNumbers
variable_numbers n = (to_item n, from_item n)
