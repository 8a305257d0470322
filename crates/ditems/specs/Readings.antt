-- The local reading that time groups say.
use Rattle.std.specs.Prelude.{ℕ, ◌+◌, ◌*◌, ◌&&◌, Option, nat_le, nat_lt}
use Rattle.std.specs.Option.{option_map}
use Rattle.calendar.specs.declared.date.Date.{Date}
use Rattle.calendar.specs.Messages.{candidate}
use Rattle.calendar.specs.Ways.{and_then}
use Rattle.ditems.specs.declared.groups.Groups.{Groups}
use Rattle.ditems.specs.Groups.{when}

-- a real day of 1900 to 2099
unfoldable pub day_of : Groups → Option Date
day_of g = candidate (g.century * 100 + g.year) g.month g.day

-- a second of the day, 0 to 86,400: hour 24 only as 24:00:00
unfoldable pub second_of : Groups → Option ℕ
second_of g =
    when (nat_lt g.minute 60 && (nat_lt g.second 60 && nat_le (g.hour * 3600 + g.minute * 60 + g.second) 86400))
    (g.hour * 3600 + g.minute * 60 + g.second)

abbrev pub reading_of : Groups → Option (Date × ℕ)
reading_of g = and_then (day_of g) (λ d. option_map {U = Date × ℕ} (λ s. (d, s)) (second_of g))
