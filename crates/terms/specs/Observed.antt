-- The observation time of a value.
use Rattle.std.specs.Prelude.{ℕ, Bool, cond, pos, ◌*ℤ◌, Some, None, Option, ◌==◌}
use Rattle.calendar.specs.declared.date.Date.{Date}
use Rattle.instants.specs.declared.moves.Move.{Move}
use Rattle.calendar.specs.Ways.{and_then}
use Rattle.instants.specs.Moves.{moved}
use Rattle.daylight.specs.declared.zone.Zone.{Zone}
use Rattle.daylight.specs.Utc.{to_utc}
use Rattle.daylight.specs.Zones.{keeps_daylight}
use Rattle.ditems.specs.Readings.{reading_of}
use Rattle.terms.specs.Standing.{Standing}

-- a reading moved in one move by so many times a move, and left as it is where there is none
unfoldable pub shifted : Option Move → ℕ → Date × ℕ → Option (Date × ℕ)
shifted None times r = Some r
shifted (Some m) times r = moved r m.unit (pos times *ℤ m.count)

-- the reading of a step: moved by the relative move, and then, but for step 0, by the step's number of intervals
unfoldable pub step_reading : Standing → ℕ → Date × ℕ → Option (Date × ℕ)
step_reading s step r = and_then (shifted s.relative 1 r) (λ q. cond (step == 0) (Some q) (shifted s.interval step q))

-- in UTC, daylight decided once, on the reading before all moves
abbrev pub step_utc : (Date × ℕ → Bool) → Zone → Standing → ℕ → Date × ℕ → Option (Date × ℕ)
step_utc daylight zone s step r = and_then (step_reading s step r) (λ q. to_utc q zone (keeps_daylight daylight zone.saving r))

unfoldable pub observed_at : (Date × ℕ → Bool) → Zone → Standing → ℕ → Option (Date × ℕ)
observed_at daylight zone s step = and_then (reading_of s.groups) (step_utc daylight zone s step)
