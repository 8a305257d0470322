-- A text has no more cases than bytes.
use Rattle.std.proofs.Common.{◌≡◌, ℕ, ◌+◌, ◌<◌, ◌≤◌, List, [], ◌∷◌, Bool, cond, true, false, length, eqb, ne_eqb, arith, ap, sum_by, refl}
use Rattle.std.specs.List.{slice_split, onto_first}
use Rattle.std.specs.Str.Lines.{lines, lines_of_parts}
use Rattle.std.proofs.lemmas.List.Sums.{sum_by-cons, count_by-le-length}
use Rattle.std.proofs.lemmas.List.Splits.{slice_split-cons_yes, slice_split-cons_no, length-slice_split}
use Rattle.cases.specs.Lists.{begins_case, count_of_cases}

-- the bytes of the parts, and one for each part
abbrev total : List (List ℕ) → ℕ
total parts = sum_by length parts + length parts

total_onto : (x : ℕ) (parts : List (List ℕ)) → 0 < length parts → total (onto_first x parts) ≡ total parts + 1
total_onto x [] l = absurd (omega arith)
total_onto x (part ∷ parts) l = omega (arith, sum_by-cons length (x ∷ part) parts, sum_by-cons length part parts)

total_split : (bs : List ℕ) → total (slice_split (λ b. eqb b 10) bs) ≡ length bs + 1
total_split [] = refl
total_split (b ∷ bs) = by_test (eqb b 10) refl (total_split bs)
  where
    by_test : (t : Bool) → eqb b 10 ≡ t → total (slice_split (λ c. eqb c 10) bs) ≡ length bs + 1 → total (slice_split (λ c. eqb c 10) (b ∷ bs)) ≡ length (b ∷ bs) + 1
    by_test true e h = omega (arith, ap total (slice_split-cons_yes (λ c. eqb c 10) b bs e), sum_by-cons length [] (slice_split (λ c. eqb c 10) bs), h)
    by_test false e h = omega (arith, ap total (slice_split-cons_no (λ c. eqb c 10) b bs e), total_onto b (slice_split (λ c. eqb c 10) bs) (omega (arith, length-slice_split (λ c. eqb c 10) bs)), h)

-- an empty last part is no line
lines_short : (parts : List (List ℕ)) → 0 < length parts → length (lines_of_parts parts) + 1 ≤ total parts
lines_short [] l = absurd (omega arith)
lines_short ([] ∷ []) l = omega arith
lines_short ((b ∷ bs) ∷ []) l = omega (arith, ap (λ t. length (cond t [] ((b ∷ bs) ∷ []))) (ne_eqb (length (b ∷ bs)) 0 (λ z. omega arith)), sum_by-cons length (b ∷ bs) [])
lines_short (x ∷ y ∷ more) l = omega (arith, lines_short (y ∷ more) (omega arith), sum_by-cons length x (y ∷ more))

pub count-le-length : (bs : List ℕ) → count_of_cases bs ≤ length bs
count-le-length bs =
    let parts = slice_split (λ b. eqb b 10) bs in
    omega (arith, count_by-le-length begins_case (lines bs), lines_short parts (omega (arith, length-slice_split (λ b. eqb b 10) bs)), total_split bs)
