-- A header is one line. Assumes nothing.
use Rattle.std.proofs.Common.{◌≡◌, ◌+◌, List, [], ◌∷◌, ◌++◌, drop, Some, None, Option, refl, ap, ◌∙◌}
use Rattle.items.proofs.Breaks.{breaks_are_slashes}
use Rattle.items.specs.Breaks.{bytes_of, one_line}
use Rattle.items.specs.Items.{cut_items, message_items}
use Rattle.merging.specs.Headers.{behind_number, continued_items}
use Rattle.merging.specs.OneLine.{HeadersAreOneLine, bytes_behind, behind_numbers}
use Rattle.reader.specs.declared.kind.Continuation.{Continuation}
use Rattle.reader.specs.Kinds.{continuation_of}
use Rattle.reader.specs.Lines.{Piece}
use Rattle.std.specs.List.{flat_map}

-- the same, each with the place of its first byte
abbrev placed_of : Piece → Option Continuation → List Piece
placed_of l None = []
placed_of l (Some c) = (l.0 + c.start, drop c.start l.1) ∷ []

abbrev placed : List Piece → List Piece
placed ls = flat_map (λ l. placed_of l (continuation_of l.1)) ls

one_items : (l : Piece) (o : Option Continuation) (rest : List Piece) → behind_number l o ++ flat_map (λ q. message_items q.0 q.1) rest ≡ flat_map (λ q. message_items q.0 q.1) (placed_of l o ++ rest)
one_items l None rest = refl
one_items l (Some c) rest = refl

items_placed : (ls : List Piece) → flat_map continued_items ls ≡ flat_map (λ q. message_items q.0 q.1) (placed ls)
items_placed [] = refl
items_placed (l ∷ ls) = ap (λ k. continued_items l ++ k) (items_placed ls) ∙ one_items l (continuation_of l.1) (placed ls)

one_bytes : (l : Piece) (o : Option Continuation) (rest : List Piece) → bytes_of (placed_of l o ++ rest) ≡ bytes_behind l o ++ bytes_of rest
one_bytes l None rest = refl
one_bytes l (Some c) rest = refl

bytes_placed : (ls : List Piece) → bytes_of (placed ls) ≡ behind_numbers ls
bytes_placed [] = refl
bytes_placed (l ∷ ls) = one_bytes l (continuation_of l.1) (placed ls) ∙ ap (λ k. bytes_behind l (continuation_of l.1) ++ k) (bytes_placed ls)

pub headers_are_one_line : HeadersAreOneLine
headers_are_one_line place first ls =
    ap (λ k. bytes_of (message_items place first ++ k)) (items_placed ls)
    ∙ breaks_are_slashes.joined (place, first) (placed ls)
    ∙ ap (λ k. bytes_of (cut_items (0, one_line first k))) (bytes_placed ls)
