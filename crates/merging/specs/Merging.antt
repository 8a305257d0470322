-- The items of a .B body line, merged with those of its header.
use Rattle.std.specs.Prelude.{◌≡◌, ℕ, ◌<◌, Bool, false, cond, List, [], ◌∷◌, ◌++◌, map, length, Option, MatchOption, IfSome, ◌==◌}
use Rattle.items.specs.declared.cut.Item.{Item}
use Rattle.merging.specs.declared.heading.Header.{Header as Heading}
use Rattle.merging.specs.declared.merge.Merged.{Merged}
use Rattle.merging.specs.declared.merge.Part.{Part}
use Rattle.merging.specs.declared.merge.Part.TheVariants.{Header, Line}
use Rattle.merging.specs.Headers.{header_ahead}
use Rattle.items.specs.Steps.{Fits, item_piece, items_ahead}
use Rattle.reader.specs.Lines.{Piece}

-- an item, and whether it is the header's or the line's own
pub data Sided : Type 0 where
  of_header : Piece → Sided
  of_line : Piece → Sided

abbrev pub is_d : List ℕ → Bool
is_d [] = false
is_d (b ∷ bs) = b == 68

-- the items that are not empty
abbrev pub filled : List Piece → List Piece
filled [] = []
filled (q ∷ qs) = cond (length q.1 == 0) (filled qs) (q ∷ filled qs)

-- a code waits: the line's D items, and then the item that uses the code up; `next` takes what follows
abbrev pub answered : (List Piece → List Sided) → List Piece → List Sided
answered next [] = []
answered next (l ∷ ls) = of_line l ∷ cond (is_d l.1) (answered next ls) (next ls)

-- no code waits: the header's D items up to and with its next code; where the header has no more, what is left of the line
abbrev pub from_header : List Piece → List Piece → List Sided
from_header [] ls = map of_line ls
from_header (h ∷ hs) ls = of_header h ∷ cond (is_d h.1) (from_header hs ls) (answered (from_header hs) ls)

abbrev pub merged_items : Bool → List Piece → List Piece → List Sided
merged_items waiting hs ls = cond waiting (answered (from_header hs) ls) (from_header hs ls)

-- the parts that are yet to come
abbrev pub parts_ahead : Merged → List Sided
parts_ahead m = merged_items m.waiting (filled (header_ahead m.header)) (items_ahead m.line)

abbrev pub sided : Part → Sided
sided (Header x) = of_header (item_piece x)
sided (Line x) = of_line (item_piece x)

-- the last byte of the part has a place
abbrev pub PartFits : Part → Type 0
PartFits (Header x) = Fits x
PartFits (Line x) = Fits x

abbrev pub PartStep : Merged → Option Part → Merged → Type 0
PartStep r o s = MatchOption o ((parts_ahead r ≡ []) × (parts_ahead s ≡ [])) (λ x. parts_ahead r ≡ sided x ∷ parts_ahead s)

-- one step that gives only parts whose last byte has a place
abbrev pub FittingPart : Merged → Option Part → Merged → Type 0
FittingPart r o s = PartStep r o s × IfSome o PartFits

-- the next item of a header that is not empty
abbrev pub FilledStep : Heading → Option Item → Heading → Type 0
FilledStep r o s = MatchOption o ((filled (header_ahead r) ≡ []) × (filled (header_ahead s) ≡ [])) (λ x. (filled (header_ahead r) ≡ item_piece x ∷ filled (header_ahead s)) × (0 < length x.part.now))

-- of the parts, those of the line, and those of the header
abbrev pub own_items : List Sided → List Piece
own_items [] = []
own_items (of_header q ∷ ps) = own_items ps
own_items (of_line q ∷ ps) = q ∷ own_items ps

abbrev pub head_items : List Sided → List Piece
head_items [] = []
head_items (of_header q ∷ ps) = q ∷ head_items ps
head_items (of_line q ∷ ps) = head_items ps

-- no item of the line is lost, and those of the header are its first ones, both in their order
abbrev pub MergedKeeps : Type 0
MergedKeeps = (hs ls : List Piece) → (own_items (from_header hs ls) ≡ ls) × ((rest : List Piece) × (head_items (from_header hs ls) ++ rest ≡ hs))
