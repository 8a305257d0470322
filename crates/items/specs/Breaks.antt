-- A line break, with the slashes and blanks beside it, is one slash.
use Rattle.std.specs.Prelude.{◌≡◌, ℕ, List, [], ◌∷◌, ◌++◌, map}
use Rattle.items.specs.declared.mark.Run.TheVariants.{Loose}
use Rattle.items.specs.Items.{cut_items, message_items}
use Rattle.items.specs.Marks.{core}
use Rattle.items.specs.Parting.{Trimmed}
use Rattle.reader.specs.Lines.{Piece}
use Rattle.std.specs.List.{flat_map}

abbrev pub bytes_of : List Piece → List (List ℕ)
bytes_of qs = map (λ q. q.1) qs

-- the stretches of a message's lines as one: each less the blanks and slashes at its ends, and a slash for each line break between
abbrev pub one_line : List ℕ → List (List ℕ) → List ℕ
one_line first [] = core Loose first
one_line first (next ∷ more) = core Loose first ++ 47 ∷ one_line next more

-- blanks and slashes at the ends of a stretch, however many, fall away; a message's lines one behind the other have the items between the slashes of the one line, those at its ends too
pub record BreaksAreSlashes : Type 0 where
  pub ends : (p : ℕ) (bs : List ℕ) (item : Piece) → Trimmed Loose p bs item → core Loose bs ≡ item.1
  pub joined : (first : Piece) (more : List Piece) → bytes_of (message_items first.0 first.1 ++ flat_map (λ q. message_items q.0 q.1) more) ≡ bytes_of (cut_items (0, one_line first.1 (bytes_of more)))
