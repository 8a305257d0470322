-- The items of an opening line or a continuation.
use Rattle.std.specs.Prelude.{List, [], ◌∷◌}
use Rattle.merging.specs.Merging.{Sided, of_header, of_line}
use Rattle.reader.specs.Lines.{Piece}
use Rattle.reader.specs.declared.kind.Form.{Form}
use Rattle.reader.specs.declared.kind.Form.TheVariants.{A, B, E}

-- an item of a table's header is the header's, of another message the line's own
abbrev pub own_item : Form → Piece → Sided
own_item A q = of_line q
own_item B q = of_header q
own_item E q = of_line q

abbrev pub own_items : Form → List Piece → List Sided
own_items f [] = []
own_items f (q ∷ qs) = own_item f q ∷ own_items f qs
