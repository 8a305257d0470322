-- A line with its comments read as blanks, and what its items and words then are.
use Rattle.std.specs.Prelude.{◌≡◌, ℕ, ◌+◌, Bool, false, cond, ◌||◌, List, [], ◌∷◌, ◌++◌, map, length, replicate, ◌==◌, ◌≢◌}
use Rattle.items.specs.Items.{body_items, message_items}
use Rattle.items.specs.Marks.{after}
use Rattle.items.specs.Words.{first_word, split_item}
use Rattle.reader.specs.Lines.{Piece}
use Rattle.std.specs.List.{AllByRecursion}
use Rattle.std.specs.Option.{option_map}

-- a blank where the byte b belongs to a comment, as its colons do, else b; `inside` where a comment is open before it
abbrev pub shown : Bool → ℕ → ℕ
shown inside b = cond (inside || b == 58) 32 b

abbrev pub blanked_from : Bool → List ℕ → List ℕ
blanked_from inside [] = []
blanked_from inside (b ∷ bs) = shown inside b ∷ blanked_from (after inside b) bs

-- the bytes with a blank in place of each byte of a comment
abbrev pub blanked : List ℕ → List ℕ
blanked bs = blanked_from false bs

abbrev pub NoColon : List ℕ → Type 0
NoColon bs = AllByRecursion (λ b. b ≢ 58) bs

-- what stands outside comments is kept; a comment goes from a colon up to the next, or to the end, and leaves as many blanks; then no comment is left, and as many bytes as before
pub record CommentsBlanked : Type 0 where
  pub kept : (bs : List ℕ) → NoColon bs → blanked bs ≡ bs
  pub closed : (front inner back : List ℕ) → NoColon front → NoColon inner → blanked (front ++ 58 ∷ (inner ++ 58 ∷ back)) ≡ front ++ (replicate (length inner + 2) 32 ++ blanked back)
  pub unclosed : (front inner : List ℕ) → NoColon front → NoColon inner → blanked (front ++ 58 ∷ inner) ≡ front ++ replicate (length inner + 1) 32
  pub none_left : (bs : List ℕ) → NoColon (blanked bs)
  pub as_long : (bs : List ℕ) → length (blanked bs) ≡ length bs

-- the same place, and the bytes with their comments blanked
abbrev pub blanked_piece : Piece → Piece
blanked_piece q = (q.0, blanked q.1)

-- the same word, behind as many bytes, and what follows it with its comments blanked
abbrev pub blanked_behind : ℕ × (List ℕ × List ℕ) → ℕ × (List ℕ × List ℕ)
blanked_behind w = (w.0, (w.1.0, blanked w.1.1))

-- a line and the line with its comments blanked have the same items at the same places, their comments blanked too; the first word and the code of an item have none
pub record ItemsBlanked : Type 0 where
  pub message : (p : ℕ) (bs : List ℕ) → message_items p (blanked bs) ≡ map blanked_piece (message_items p bs)
  pub body : (p : ℕ) (bs : List ℕ) → body_items p (blanked bs) ≡ map blanked_piece (body_items p bs)
  pub word : (bs : List ℕ) → first_word (blanked bs) ≡ option_map blanked_behind (first_word bs)
  pub parted : (bs : List ℕ) → split_item (blanked bs) ≡ ((split_item bs).0, blanked (split_item bs).1)
