-- What the lines of a text are, as a relation: it does not say how they are found.
use Rattle.std.specs.Prelude.{◌≡◌, ℕ, ◌+◌, ◌-◌, ◌<◌, List, [], ◌∷◌, ◌++◌, map, length}
use Rattle.reader.specs.Lines.{FirstLine, Piece, lines, shifted}

-- `Cut p text ls`: ls are the lines of `text`, which begins at p; each next line begins where the end of the one before ends
pub data Cut : ℕ → List ℕ → List Piece → Type 0 where
  none : {p : ℕ} → Cut p [] []
  more : {p : ℕ} {text line rest : List ℕ} {ls : List Piece} → 0 < length text → FirstLine text line rest → Cut (p + (length text - length rest)) rest ls → Cut p text ((p, line) ∷ ls)

abbrev pub LinesCut : Type 0
LinesCut = (text : List ℕ) → Cut 0 text (lines text)

-- a text that ends a line and another behind it have the lines of both, those of the second with their places shifted
abbrev pub LinesJoin : Type 0
LinesJoin = (xs ys : List ℕ) → lines (xs ++ 10 ∷ ys) ≡ lines (xs ++ 10 ∷ []) ++ map (shifted (length xs + 1)) (lines ys)
