-- What the items of a message come to, one after the other.
use Rattle.std.specs.Prelude.{ℕ, List, [], ◌∷◌, Some, None, Ok, Err, Option}
use Rattle.merging.specs.Merging.{Sided, of_header, of_line}
use Rattle.record.specs.Entries.{Entry}
use Rattle.refusals.specs.declared.Refusal.TheVariants.{Item}
use Rattle.events.specs.Events.{Event, logged, refused}
use Rattle.daylight.specs.Settings.{Setting}
use Rattle.messages.specs.Models.{Common, Reached}
use Rattle.messages.specs.Turns.{Turned, turn}

abbrev pub place_of : Sided → ℕ
place_of (of_header x) = x.0
place_of (of_line x) = x.0

-- the record that an item at a place gives, if any, and then what follows
abbrev pub logs : ℕ → Option Entry → List Event → List Event
logs place None es = es
logs place (Some e) es = logged place e ∷ es

-- an item at a place, and what follows where it is not refused
abbrev pub turn_then : ℕ → Turned → (Reached → List Event) → List Event
turn_then place (Err r) k = refused (Item r) place ∷ []
turn_then place (Ok t) k = logs place t.1 (k t.0)

-- items one after the other, and what then follows; the first refusal is the last event
abbrev pub follow : Setting → Common → Reached → List Sided → (Reached → List Event) → List Event
follow S m p [] k = k p
follow S m p (x ∷ xs) k = turn_then (place_of x) (turn S m p x) (λ q. follow S m q xs k)
