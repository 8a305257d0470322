-- Where in a text the items of its lines stand.
use Rattle.std.specs.Prelude.{◌≡◌, ℕ, ◌+◌, ◌≤◌, List, length, drop}
use Rattle.items.specs.Items.{body_items, message_items}
use Rattle.reader.specs.Lines.{Piece}
use Rattle.std.specs.List.{AllByRecursion, between}

-- the bytes are those of the text from their place on
pub record StandsIn (text : List ℕ) (q : Piece) : Type 0 where
  pub stands : q.1 ≡ between q.0 (q.0 + length q.1) text
  pub within : q.0 + length q.1 ≤ length text

-- in a line that stands in the text at its place, the items behind `from` bytes stand there too, the empty ones inside the text
pub record ItemsStand : Type 0 where
  pub message : (text : List ℕ) (line : Piece) (from : ℕ) → StandsIn text line → from ≤ length line.1 → AllByRecursion (StandsIn text) (message_items (line.0 + from) (drop from line.1))
  pub body : (text : List ℕ) (line : Piece) (from : ℕ) → StandsIn text line → from ≤ length line.1 → AllByRecursion (StandsIn text) (body_items (line.0 + from) (drop from line.1))
