-- The items of a line, in raw bytes: what is cut and what falls away is decided by how the bytes read.
use Rattle.std.specs.Prelude.{ℕ, ◌+◌, ◌-◌, ◌^◌, min, Bool, false, cond, List, [], ◌∷◌, ◌++◌, map, length, take, ◌==◌}
use Rattle.items.specs.declared.mark.Run.{Run}
use Rattle.items.specs.declared.mark.Run.TheVariants.{Blanks, Loose}
use Rattle.items.specs.Marks.{after, body_len, core, is_slash, mark_of, marks, passes}
use Rattle.reader.specs.Lines.{Piece}
use Rattle.std.specs.List.{prefix_len}

-- a piece less the runs at both ends
abbrev pub trimmed : Run → Piece → Piece
trimmed run q = (q.0 + prefix_len (passes run) (marks false q.1), core run q.1)

-- the pieces between slashes, of which the one that begins at `start` has been read as far as `part`
abbrev pub pieces : ℕ → List ℕ → Bool → List ℕ → List Piece
pieces start part inside [] = (start, part) ∷ []
pieces start part inside (b ∷ bs) = cond (is_slash (mark_of inside b)) ((start, part) ∷ pieces (start + length part + 1) [] (after inside b) bs) (pieces start (part ++ b ∷ []) (after inside b) bs)

-- the pieces between slashes, less the blanks around each
abbrev pub cut_items : Piece → List Piece
cut_items q = map (trimmed Blanks) (pieces q.0 [] false q.1)

-- the items of a message line's stretch: the slashes at its ends fall together with the line break
abbrev pub message_items : ℕ → List ℕ → List Piece
message_items place bs = cut_items (trimmed Loose (place, bs))

abbrev pub is_blank : List ℕ → Bool
is_blank bs = prefix_len (passes Blanks) (marks false bs) == length bs

-- the items of a body line's stretch: one slash at its end is dropped, and what is blank then has none
abbrev pub body_items : ℕ → List ℕ → List Piece
body_items place bs = cond (is_blank (take (body_len (marks false bs)) bs)) [] (cut_items (place, take (body_len (marks false bs)) bs))

-- a place, lowered where `len` bytes from it on would pass the largest place
abbrev pub fitted : ℕ → ℕ → ℕ
fitted place len = min place (2 ^ 64 - 1 - len)
