-- In what order the items of a header and those of a body line come, as a relation: it does not say how the next part is found.
use Rattle.std.specs.Prelude.{◌≡◌, true, false, List, ◌∷◌, ◌++◌, map}
use Rattle.merging.specs.Merging.{Sided, from_header, is_d, of_header, of_line}
use Rattle.reader.specs.Lines.{Piece}
use Rattle.std.specs.List.{AllByRecursion}

abbrev pub IsD : Piece → Type 0
IsD q = is_d q.1 ≡ true

abbrev pub NoD : Piece → Type 0
NoD q = is_d q.1 ≡ false

-- `InOrder hs ls ps`: ps are the parts of a body line with the items ls, under a header with the items hs
pub data InOrder : List Piece → List Piece → List Sided → Type 0 where
  -- the header's D items before its next code, and that code; then the line's own D items, and the value or empty item that uses the code up; and so on
  used : (ds : List Piece) (c : Piece) {hs : List Piece} (es : List Piece) (v : Piece) {ls : List Piece} {ps : List Sided} → AllByRecursion IsD ds → NoD c → AllByRecursion IsD es → NoD v → InOrder hs ls ps → InOrder (ds ++ c ∷ hs) (es ++ v ∷ ls) (map of_header ds ++ of_header c ∷ (map of_line es ++ of_line v ∷ ps))
  -- the line ends before an item uses the code up: no more of the header comes
  ended : (ds : List Piece) (c : Piece) (hs : List Piece) {es : List Piece} → AllByRecursion IsD ds → NoD c → AllByRecursion IsD es → InOrder (ds ++ c ∷ hs) es (map of_header ds ++ of_header c ∷ map of_line es)
  -- the header has no code left: its last D items, for which no value comes, and then what is left of the line
  codeless : {ds : List Piece} (ls : List Piece) → AllByRecursion IsD ds → InOrder ds ls (map of_header ds ++ map of_line ls)

-- the parts of every body line come in that order, and in no other
pub record PartsInOrder : Type 0 where
  pub ordered : (hs ls : List Piece) → InOrder hs ls (from_header hs ls)
  pub only : (hs ls : List Piece) (ps : List Sided) → InOrder hs ls ps → from_header hs ls ≡ ps
