-- Duration numbers have four digits.
use Rattle.std.proofs.Common.{◌≡◌, ℕ, ◌<◌, Bool, true, ◌&&◌, eqb, ltb, List, [], ◌∷◌, get_or, Some, refl, ◌∙◌, arith}
use Rattle.std.proofs.lemmas.Bool.{cond_both, cond-true, and_from, and_parts, ltb-true, eqb-true}
use Rattle.std.proofs.lemmas.Bool.Decides.{nat_tests}
use Rattle.std.specs.List.{find}
use Rattle.std.specs.Option.{option_map}
use Rattle.quantity.specs.Codes.{durations, number_in, duration_number, is_just, is_variable, variable_number, goes_with, duration_fits, full_code}
use Rattle.quantity.specs.Parameters.{parameter_from}

small : List (ℕ × ℕ) → Bool
small [] = true
small (d ∷ ds) = ltb d.1 10000 && small ds

fixed_small : (letter n : ℕ) (ds : List (ℕ × ℕ)) → small ds ≡ true → is_just (number_in letter ds) n ≡ true → n < 10000
unfolding small
fixed_small letter n [] s e = absurd (grind (arith, nat_tests))
fixed_small letter n (d ∷ ds) s e =
    let parts = and_parts (ltb d.1 10000) (small ds) s in
    cond_both (eqb d.0 letter) (Some d) (find (λ d. eqb d.0 letter) ds) (λ o. is_just (option_map (λ d. d.1) o) n ≡ true → n < 10000)
    (λ _ h. omega (arith, ltb-true d.1 10000 parts.0, eqb-true d.1 n h))
    (λ _ h. fixed_small letter n ds parts.1 h) e

durations_small : small durations ≡ true
unfolding small durations
durations_small = refl

variable_small : (n : ℕ) → variable_number n ≡ true → n < 10000
variable_small n e = grind (arith, nat_tests)

goes_small : (letter n : ℕ) → goes_with letter n ≡ true → n < 10000
goes_small letter n e =
    cond_both (is_variable letter) (variable_number n) (is_just (duration_number letter) n) (λ b. b ≡ true → n < 10000)
    (λ _ h. variable_small n h) (λ _ h. fixed_small letter n durations durations_small h) e

pub duration_small : (code : List ℕ) (n : ℕ) → duration_fits code n ≡ true → n < 10000
duration_small code n e = goes_small (get_or code 2 0) n e

-- what the checked constructor makes of a code and a number that are known
pub parameter_made : (cs cs' : List ℕ) (n n' : ℕ) → cs ≡ cs' → n ≡ n' → full_code cs' ≡ true → duration_fits cs' n' ≡ true → parameter_from cs n ≡ Some (cs', n')
parameter_made cs cs' n n' e f full fits = (λ i. parameter_from (e i) (f i)) ∙ cond-true _ _ _ (and_from _ _ full fits)
