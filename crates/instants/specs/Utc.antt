-- Times in UTC, to the second and to the minute, of the years 1900 to 2099.
use Rattle.std.specs.Prelude.{ℕ, Bool, ◌&&◌, nat_lt}
use Rattle.calendar.specs.declared.date.Date.{Date}
use Rattle.calendar.specs.Dates.{message_day}

abbrev pub utc_time : Date → ℕ → Bool
utc_time d s = message_day d && nat_lt s 86400

abbrev pub utc_minute : Date → ℕ → Bool
utc_minute d m = message_day d && nat_lt m 1440
