-- A header is one line: each line break, with the slashes and blanks beside it, is one slash.
use Rattle.std.specs.Prelude.{◌≡◌, ℕ, List, [], ◌∷◌, drop, Some, None, Option}
use Rattle.items.specs.Breaks.{bytes_of, one_line}
use Rattle.items.specs.Items.{cut_items, message_items}
use Rattle.merging.specs.Headers.{header_items}
use Rattle.reader.specs.declared.kind.Continuation.{Continuation}
use Rattle.reader.specs.Kinds.{continuation_of}
use Rattle.reader.specs.Lines.{Piece}
use Rattle.std.specs.List.{flat_map}

abbrev pub bytes_behind : Piece → Option Continuation → List (List ℕ)
bytes_behind l None = []
bytes_behind l (Some c) = drop c.start l.1 ∷ []

-- what stands behind the number of each continuation; a line of another kind has nothing
abbrev pub behind_numbers : List Piece → List (List ℕ)
behind_numbers ls = flat_map (λ l. bytes_behind l (continuation_of l.1)) ls

-- a header has the items of its lines made one, cut at each of its slashes, also at its ends
abbrev pub HeadersAreOneLine : Type 0
HeadersAreOneLine = (place : ℕ) (first : List ℕ) (continuations : List Piece) → bytes_of (header_items (message_items place first) continuations) ≡ bytes_of (cut_items (0, one_line first (behind_numbers continuations)))
