-- The lines of a part of a text are those of the part by itself, their places shifted. Assumes nothing.
use Rattle.std.proofs.Common.{◌≡◌, ℕ, ◌+◌, true, false, cond, eqb, List, [], ◌∷◌, ◌++◌, map, length, sym, refl, ap, ◌∙◌, add-zero, arith}
use Rattle.reader.specs.Lines.{last_line, less_return, lines, lines_from, lines_of, shifted}

last_shifted : (base p : ℕ) (line : List ℕ) → last_line (base + p) line ≡ map (shifted base) (last_line p line)
last_shifted base p [] = refl
last_shifted base p (b ∷ bs) = refl

from_shifted : (base p : ℕ) (line text : List ℕ) → lines_from (base + p) line text ≡ map (shifted base) (lines_from p line text)
from_shifted base p line [] = last_shifted base p line
from_shifted base p line (b ∷ bs) =
    let on : base + p + length line + 1 ≡ base + (p + length line + 1) = omega arith in
    elim (eqb b 10) as (λ v. cond v ((base + p, less_return line) ∷ lines_from (base + p + length line + 1) [] bs) (lines_from (base + p) (line ++ b ∷ []) bs) ≡ map (shifted base) (cond v ((p, less_return line) ∷ lines_from (p + length line + 1) [] bs) (lines_from p (line ++ b ∷ []) bs))) [
      | true ↦ ap (λ n. (base + p, less_return line) ∷ lines_from n [] bs) on ∙ ap (λ l. (base + p, less_return line) ∷ l) (from_shifted base (p + length line + 1) [] bs)
      | false ↦ from_shifted base p (line ++ b ∷ []) bs
    ]

pub lines-shifted : (base : ℕ) (part : List ℕ) → lines_of base part ≡ map (shifted base) (lines part)
lines-shifted base part = ap (λ n. lines_from n [] part) (sym (add-zero base)) ∙ from_shifted base 0 [] part
