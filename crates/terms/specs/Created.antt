-- The creation time of a DC item: mmddhh, mmddhhnn, yymmddhhnn or ccyymmddhhnn, in the message's zone.
use Rattle.std.specs.Prelude.{ℕ, ◌/◌, Bool, cond, ◌||◌, List, length, take, drop, Some, None, Option, ◌==◌}
use Rattle.std.specs.Option.{option_map}
use Rattle.calendar.specs.declared.date.Date.{Date}
use Rattle.calendar.specs.Messages.{message_date}
use Rattle.calendar.specs.Ways.{and_then}
use Rattle.daylight.specs.declared.zone.Zone.{Zone}
use Rattle.daylight.specs.Utc.{utc_of}
use Rattle.ditems.specs.Groups.{groups_at, set_from}
use Rattle.ditems.specs.Readings.{reading_of}
use Rattle.ditems.specs.declared.groups.Group.TheVariants.{Hour}

-- how many of so many digits write the date
abbrev pub date_length : ℕ → Option ℕ
date_length n = cond (n == 6 || n == 8) (Some 4) (cond (n == 10) (Some 6) (cond (n == 12) (Some 8) None))

-- the reading at hh or hhnn on a date
abbrev pub day_and_clock : Date → List ℕ → List ℕ → Option (Date × ℕ)
day_and_clock today date time = and_then (message_date date today) (λ d. and_then (set_from (Some Hour) (groups_at d 0) time) reading_of)

-- the local reading that the digits write
unfoldable pub created_reading : Date → List ℕ → Option (Date × ℕ)
created_reading today digits = and_then (date_length (length digits)) (λ k. day_and_clock today (take k digits) (drop k digits))

-- the date and the minute of the day in UTC
unfoldable pub created_of : Date → (Date × ℕ → Bool) → Zone → List ℕ → Option (Date × ℕ)
created_of today daylight zone digits =
    option_map {U = Date × ℕ} (λ q. (q.0, q.1 / 60)) (and_then (created_reading today digits) (utc_of daylight zone))
