-- Local readings in UTC.
use Rattle.std.specs.Prelude.{◌≡◌, ℕ, ◌+◌, ◌-◌, ◌*◌, Bool, true, false, cond, pos, Some, None, Option, ◌≢◌}
use Rattle.calendar.specs.declared.date.Date.{Date}
use Rattle.instants.specs.declared.moves.Unit.TheVariants.{Second}
use Rattle.calendar.specs.Dates.{real}
use Rattle.calendar.specs.Ways.{and_then}
use Rattle.instants.specs.Moves.{instant, moved}
use Rattle.instants.specs.Utc.{utc_time}
use Rattle.daylight.specs.declared.zone.Zone.{Zone}
use Rattle.daylight.specs.Zones.{keeps_daylight, seconds_behind}

abbrev pub only_utc : Date × ℕ → Option (Date × ℕ)
only_utc q = cond (utc_time q.0 q.1) (Some q) None

-- the reading moved by the seconds that its zone is behind, where that is a time of 1900 to 2099
unfoldable pub to_utc : Date × ℕ → Zone → Bool → Option (Date × ℕ)
to_utc r zone saves = and_then (moved r Second (pos (seconds_behind zone saves))) only_utc

-- a local reading in UTC, daylight decided on it
abbrev pub utc_of : (Date × ℕ → Bool) → Zone → Date × ℕ → Option (Date × ℕ)
utc_of daylight zone r = to_utc r zone (keeps_daylight daylight zone.saving r)

-- the time in UTC that lies so many seconds after a reading on the line of instants
abbrev pub Behind : Date × ℕ → ℕ → Option (Date × ℕ) → Type 0
Behind r seconds None = real r.0 ≡ true → (q : Date × ℕ) → utc_time q.0 q.1 ≡ true → instant q ≢ instant r + seconds
Behind r seconds (Some q) = (real r.0 ≡ true) × (utc_time q.0 q.1 ≡ true) × (instant q ≡ instant r + seconds)

pub record UtcIsLater : Type 0 where
  -- by the seconds that the zone is behind
  pub told : (r : Date × ℕ) (zone : Zone) (saves : Bool) → Behind r (seconds_behind zone saves) (to_utc r zone saves)
  -- under a rule by 3,600 seconds for each of the zone's hours, and by 3,600 less where the zone keeps daylight time at the reading
  pub standard : (daylight : Date × ℕ → Bool) (zone : Zone) (r : Date × ℕ) → keeps_daylight daylight zone.saving r ≡ false →
      Behind r (zone.hours * 3600) (utc_of daylight zone r)
  pub saving : (daylight : Date × ℕ → Bool) (zone : Zone) (r : Date × ℕ) → keeps_daylight daylight zone.saving r ≡ true →
      Behind r (zone.hours * 3600 - 3600) (utc_of daylight zone r)
