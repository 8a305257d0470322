-- Two texts, one behind the other.
use Rattle.std.specs.Prelude.{◌≡◌, ℕ, ◌+◌, Bool, true, false, List, [], ◌∷◌, ◌++◌, map, length}
use Rattle.reader.specs.Kinds.{kind_of}
use Rattle.reader.specs.Lines.{Piece, lines}
use Rattle.events.specs.Events.{Event, logged, refused}
use Rattle.daylight.specs.Settings.{Setting}
use Rattle.shef.specs.Texts.{is_opening, events}

-- the same event, in a text of which its own begins at `base`
abbrev pub shifted_event : ℕ → Event → Event
shifted_event base (logged p e) = logged (base + p) e
shifted_event base (refused r p) = refused r (base + p)

abbrev pub shifted_events : ℕ → List Event → List Event
shifted_events base es = map (shifted_event base) es

-- a text behind which a line begins
pub data EndsLine : List ℕ → Type 0 where
  empty : EndsLine []
  feed : (front : List ℕ) → EndsLine (front ++ 10 ∷ [])

abbrev pub opens_first : List Piece → Bool
opens_first [] = false
opens_first (l ∷ ls) = is_opening (kind_of l.1)

-- Where a second text begins with an opening, both read as each does alone. A table left open in the first is refused where the
-- second begins, which is where the first ends.
abbrev pub TextsJoin : Type 0
TextsJoin = (S : Setting) (first second : List ℕ) → EndsLine first → opens_first (lines second) ≡ true → events S (first ++ second) ≡ events S first ++ shifted_events (length first) (events S second)
