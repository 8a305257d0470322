-- What a reader of items has yet to give, and one step of it.
use Rattle.std.specs.Prelude.{◌≡◌, ◌+◌, ◌^◌, ◌<◌, List, [], ◌∷◌, length, Some, None, Option, MatchOption, IfSome}
use Rattle.items.specs.declared.cut.Item.{Item}
use Rattle.items.specs.declared.cut.Items.{Items}
use Rattle.items.specs.Items.{cut_items}
use Rattle.reader.specs.Lines.{Piece}

abbrev pub item_piece : Item → Piece
item_piece x = (x.place, x.part.now)

-- the items of what is left of a line
abbrev pub items_of : Option Item → List Piece
items_of None = []
items_of (Some rest) = cut_items (item_piece rest)

-- the items that are yet to come
abbrev pub items_ahead : Items → List Piece
items_ahead r = items_of r.rest

abbrev pub ItemStep : Items → Option Item → Items → Type 0
ItemStep r o s = MatchOption o ((items_ahead r ≡ []) × (items_ahead s ≡ [])) (λ x. items_ahead r ≡ item_piece x ∷ items_ahead s)

-- its last byte has a place
abbrev pub Fits : Item → Type 0
Fits x = x.place + length x.part.now < 2 ^ 64

-- one step that gives only items whose last byte has a place
abbrev pub FittingStep : Items → Option Item → Items → Type 0
FittingStep r o s = ItemStep r o s × IfSome o Fits
