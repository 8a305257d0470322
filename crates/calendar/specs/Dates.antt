-- The Gregorian calendar, carried on to all years from 0 to 9999, and the number of a day, by counting.
use Rattle.std.specs.Prelude.{ℕ, zero, suc, ◌+◌, ◌-◌, ◌%◌, Bool, cond, not, ◌&&◌, ◌||◌, Some, None, Option, ◌==◌, nat_le, nat_lt}
use Rattle.calendar.specs.declared.date.Date.{Date}

-- every fourth year, of the full centuries only every fourth
abbrev pub leap : ℕ → Bool
leap y = y % 4 == 0 && (not (y % 100 == 0) || y % 400 == 0)

abbrev pub year_length : ℕ → ℕ
year_length y = cond (leap y) 366 365

-- the days of a month, 0 where there is no such month
unfoldable pub month_length : ℕ → ℕ → ℕ
month_length y m =
    cond (m == 2) (cond (leap y) 29 28)
    (cond (m == 4 || m == 6 || m == 9 || m == 11) 30 (cond (nat_le 1 m && nat_le m 12) 31 0))

-- a day that the calendar has
unfoldable pub real : Date → Bool
real d = nat_le d.year 9999 && nat_le 1 d.day && nat_le d.day (month_length d.year d.month)

abbrev pub real_date : ℕ → ℕ → ℕ → Option Date
real_date y m d = let date : Date = record { year = y; month = m; day = d } in cond (real date) (Some date) None

-- a real day of the years that messages may speak of
unfoldable pub message_day : Date → Bool
message_day d = nat_le 1900 d.year && nat_le d.year 2099 && real d

-- the days of all years below y
unfoldable pub years_before : ℕ → ℕ
years_before zero = 0
years_before (suc y) = years_before y + year_length y

-- the days of all months of the year y below the month m
unfoldable pub months_before : ℕ → ℕ → ℕ
months_before y zero = 0
months_before y (suc m) = months_before y m + month_length y m

-- the number of a day: 1 January of the year 0 has the number 1, a Saturday
abbrev pub number : Date → ℕ
number d = years_before d.year + months_before d.year d.month + d.day

-- the day after
abbrev pub next_day : Date → Date
next_day d =
    cond (nat_lt d.day (month_length d.year d.month))
    (record { year = d.year; month = d.month; day = d.day + 1 })
    (cond (nat_lt d.month 12)
    (record { year = d.year; month = d.month + 1; day = 1 })
    (record { year = d.year + 1; month = 1; day = 1 }))

-- the day that comes so many days after 1 January of the year 0
unfoldable pub day_after : ℕ → Date
day_after zero = record { year = 0; month = 1; day = 1 }
day_after (suc n) = next_day (day_after n)

-- the day of a number: 31 December 9999 has the last one
unfoldable pub date_of : ℕ → Option Date
date_of n = cond (nat_le 1 n && nat_le n 3652425) (Some (day_after (n - 1))) None
