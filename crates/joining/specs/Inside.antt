-- Where the events of a text stand.
use Rattle.std.specs.Prelude.{ℕ, ◌<◌, ◌≤◌, List, length}
use Rattle.std.specs.List.{AllByRecursion}
use Rattle.events.specs.Events.{Event, logged, refused}
use Rattle.daylight.specs.Settings.{Setting}
use Rattle.shef.specs.Texts.{events}

-- in a text that ends at e a record has a byte to stand at, and a refusal has one or stands at the end
abbrev pub Inside : ℕ → Event → Type 0
Inside e (logged p x) = p < e
Inside e (refused r p) = p ≤ e

abbrev pub PlacesInside : Type 0
PlacesInside = (S : Setting) (text : List ℕ) → AllByRecursion (Inside (length text)) (events S text)
