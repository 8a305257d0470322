-- The current date that a first line names.
use Rattle.std.specs.Prelude.{◌≡◌, ℕ, true, List, ◌≢◌}
use Rattle.calendar.specs.Dates.{message_day}
use Rattle.calendar.specs.declared.date.Date.{Date}
use Rattle.calendar.specs.Written.{ccyymmdd}

-- a date that no calendar has
abbrev pub no_day : Date
no_day = record { year = 0; month = 0; day = 0 }

-- the eight digits ccyymmdd of a day of 1900 to 2099 name that day, and any other line names no day
pub data Names : List ℕ → Date → Type 0 where
  digits : (d : Date) → message_day d ≡ true → Names (ccyymmdd d) d
  other : (line : List ℕ) → ((d : Date) → message_day d ≡ true → ccyymmdd d ≢ line) → Names line no_day
