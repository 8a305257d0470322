-- Moves of local readings, each a date and a second of the day from 0 to 86,400.
use Rattle.std.specs.Prelude.{ℕ, ◌+◌, ◌-◌, ◌*◌, ◌/◌, ◌%◌, min, cond, ℤ, pos, negsuc, ◌+ℤ◌, ◌*ℤ◌, Some, None, Option, nat_le}
use Rattle.std.specs.Option.{option_map}
use Rattle.calendar.specs.declared.date.Date.{Date}
use Rattle.instants.specs.declared.moves.Unit as the_unit
use Rattle.instants.specs.declared.moves.Unit.TheVariants.{Second, Minute, Hour, Day, Month, Year, MonthEnd}
use Rattle.calendar.specs.Dates.{month_length, real, number, date_of}
use Rattle.calendar.specs.Ways.{and_then}

-- an integer that is not below 0
abbrev pub natural : ℤ → Option ℕ
natural (pos n) = Some n
natural (negsuc n) = None

-- the place of a reading on the line of instants, in seconds
abbrev pub instant : Date × ℕ → ℕ
instant r = number r.0 * 86400 + r.1

-- the reading at an instant, its second below 86,400
abbrev pub reading_at : ℕ → Option (Date × ℕ)
reading_at n = option_map {U = Date × ℕ} (λ d. (d, n % 86400)) (date_of (n / 86400))

-- the place of a date's month on the line of months
abbrev pub month_place : Date → ℕ
month_place d = d.year * 12 + (d.month - 1)

-- the year and the month at a place
abbrev pub month_at : ℕ → Option (ℕ × ℕ)
month_at n = cond (nat_le (n / 12) 9999) (Some (n / 12, n % 12 + 1)) None

-- the year and the month so many months away
unfoldable pub month_from : Date → ℤ → Option (ℕ × ℕ)
month_from d z = and_then (natural (pos (month_place d) +ℤ z)) month_at

unfoldable pub by_seconds : Date × ℕ → ℤ → Option (Date × ℕ)
by_seconds r z = and_then (natural (pos (instant r) +ℤ z)) reading_at

unfoldable pub by_days : Date → ℤ → Option Date
by_days d z = and_then (natural (pos (number d) +ℤ z)) date_of

-- the day cut to the month's length
abbrev pub cut_in : ℕ → ℕ × ℕ → Date
cut_in d p = record { year = p.0; month = p.1; day = min d (month_length p.0 p.1) }

abbrev pub last_in : ℕ × ℕ → Date
last_in p = record { year = p.0; month = p.1; day = month_length p.0 p.1 }

unfoldable pub by_months : Date → ℤ → Option Date
by_months d z = option_map (cut_in d.day) (month_from d z)

unfoldable pub to_month_end : Date → ℤ → Option Date
to_month_end d z = option_map last_in (month_from d z)

-- the same second on another date
abbrev pub with_second : ℕ → Option Date → Option (Date × ℕ)
with_second s o = option_map {U = Date × ℕ} (λ d. (d, s)) o

abbrev pub real_moved : Date × ℕ → the_unit.Unit → ℤ → Option (Date × ℕ)
real_moved r Second z = by_seconds r z
real_moved r Minute z = by_seconds r (pos 60 *ℤ z)
real_moved r Hour z = by_seconds r (pos 3600 *ℤ z)
real_moved r Day z = with_second r.1 (by_days r.0 z)
real_moved r Month z = with_second r.1 (by_months r.0 z)
real_moved r Year z = with_second r.1 (by_months r.0 (pos 12 *ℤ z))
real_moved r MonthEnd z = with_second r.1 (to_month_end r.0 z)

-- a reading moved by a signed number of units, where its date is real and the calendar has the outcome
unfoldable pub moved : Date × ℕ → the_unit.Unit → ℤ → Option (Date × ℕ)
moved r u z = cond (real r.0) (real_moved r u z) None
