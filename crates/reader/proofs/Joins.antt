-- The lines of two texts, the first of which ends a line. Assumes nothing.
use Rattle.std.proofs.Common.{◌≡◌, ℕ, ◌+◌, true, false, cond, eqb, List, [], ◌∷◌, ◌++◌, length, ap, ◌∙◌, arith}
use Rattle.reader.proofs.Shifts.{lines-shifted}
use Rattle.reader.specs.Cut.{LinesJoin}
use Rattle.reader.specs.Lines.{less_return, lines, lines_from, lines_of}
use Rattle.std.proofs.lemmas.List.{length_push}

from : (p : ℕ) (part xs ys : List ℕ) → lines_from p part (xs ++ 10 ∷ ys) ≡ lines_from p part (xs ++ 10 ∷ []) ++ lines_from (p + length part + length xs + 1) [] ys
from p part [] ys =
    let on : p + length part + 1 ≡ p + length part + 0 + 1 = omega arith in
    ap (λ n. (p, less_return part) ∷ lines_from n [] ys) on
from p part (b ∷ bs) ys =
    let fed : p + length part + 1 + 0 + length bs + 1 ≡ p + length part + length (b ∷ bs) + 1 = omega arith in
    let on : p + length (part ++ b ∷ []) + length bs + 1 ≡ p + length part + length (b ∷ bs) + 1 = omega (arith, length_push part b) in
    elim (eqb b 10) as (λ v. cond v ((p, less_return part) ∷ lines_from (p + length part + 1) [] (bs ++ 10 ∷ ys)) (lines_from p (part ++ b ∷ []) (bs ++ 10 ∷ ys)) ≡ cond v ((p, less_return part) ∷ lines_from (p + length part + 1) [] (bs ++ 10 ∷ [])) (lines_from p (part ++ b ∷ []) (bs ++ 10 ∷ [])) ++ lines_from (p + length part + length (b ∷ bs) + 1) [] ys) [
      | true ↦ ap (λ l. (p, less_return part) ∷ l) (from (p + length part + 1) [] bs ys ∙ ap (λ n. lines_from (p + length part + 1) [] (bs ++ 10 ∷ []) ++ lines_from n [] ys) fed)
      | false ↦ from p (part ++ b ∷ []) bs ys ∙ ap (λ n. lines_from p (part ++ b ∷ []) (bs ++ 10 ∷ []) ++ lines_from n [] ys) on
    ]

-- the same of a part of a text that begins at p
pub lines_join_at : (p : ℕ) (xs ys : List ℕ) → lines_of p (xs ++ 10 ∷ ys) ≡ lines_of p (xs ++ 10 ∷ []) ++ lines_of (p + length xs + 1) ys
lines_join_at p xs ys =
    let on : p + 0 + length xs + 1 ≡ p + length xs + 1 = omega arith in
    from p [] xs ys ∙ ap (λ n. lines_of p (xs ++ 10 ∷ []) ++ lines_of n ys) on

pub lines_join : LinesJoin
lines_join xs ys =
    let on : 0 + length xs + 1 ≡ length xs + 1 = omega arith in
    lines_join_at 0 xs ys ∙ ap (λ n. lines (xs ++ 10 ∷ []) ++ lines_of n ys) on ∙ ap (λ l. lines (xs ++ 10 ∷ []) ++ l) (lines-shifted (length xs + 1) ys)
