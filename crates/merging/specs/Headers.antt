-- The items of a .B header, which stands on an opening line and its continuations.
use Rattle.std.specs.Prelude.{◌≡◌, ◌+◌, List, [], ◌∷◌, ◌++◌, take, drop, Some, None, Option, MatchOption, IfSome}
use Rattle.items.specs.declared.cut.Item.{Item}
use Rattle.merging.specs.declared.heading.Header.{Header}
use Rattle.items.specs.Items.{message_items}
use Rattle.items.specs.Steps.{Fits, item_piece, items_ahead}
use Rattle.reader.specs.declared.kind.Continuation.{Continuation}
use Rattle.reader.specs.Kinds.{continuation_of}
use Rattle.reader.specs.Lines.{Piece, lines_ahead}
use Rattle.std.specs.List.{flat_map}

-- the items behind the number of a continuation
abbrev pub behind_number : Piece → Option Continuation → List Piece
behind_number l None = []
behind_number l (Some c) = message_items (l.0 + c.start) (drop c.start l.1)

abbrev pub continued_items : Piece → List Piece
continued_items l = behind_number l (continuation_of l.1)

-- the items of the opening line, and of its continuations
abbrev pub header_items : List Piece → List Piece → List Piece
header_items opening continuations = opening ++ flat_map continued_items continuations

-- the items that are yet to come
abbrev pub header_ahead : Header → List Piece
header_ahead h = header_items (items_ahead h.items) (take h.left (lines_ahead h.lines))

abbrev pub HeaderStep : Header → Option Item → Header → Type 0
HeaderStep r o s = MatchOption o ((header_ahead r ≡ []) × (header_ahead s ≡ [])) (λ x. header_ahead r ≡ item_piece x ∷ header_ahead s)

-- one step that gives only items whose last byte has a place
abbrev pub FittingStep : Header → Option Item → Header → Type 0
FittingStep r o s = HeaderStep r o s × IfSome o Fits
