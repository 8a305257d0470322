-- What the numbers of days keep of the calendar.
use Rattle.std.specs.Prelude.{◌≡◌, ℕ, ◌+◌, ◌<◌, Bool, true, ◌&&◌, ◌||◌, ◌⊎◌, Some, None, ◌==◌, nat_lt}
use Rattle.calendar.specs.declared.date.Date.{Date}
use Rattle.calendar.specs.Dates.{real, number, next_day, date_of}

-- by year, then by month, then by day
abbrev pub earlier : Date → Date → Bool
earlier a b =
    nat_lt a.year b.year || (a.year == b.year && (nat_lt a.month b.month || (a.month == b.month && nat_lt a.day b.day)))

pub record DayNumbers : Type 0 where
  -- the next day has the next number, and only the last day of 9999 has no real day after it
  pub next-number : (d : Date) → real d ≡ true → number (next_day d) ≡ number d + 1
  pub next-real : (d : Date) → real d ≡ true → number d < 3652425 → real (next_day d) ≡ true
  -- the day of the number of a day is that day, and the number of the day of a number is that number
  pub day_back : (d : Date) → real d ≡ true → date_of (number d) ≡ Some d
  pub number_back : (n : ℕ) (d : Date) → date_of n ≡ Some d → (real d ≡ true) × (number d ≡ n)
  pub no_day : (n : ℕ) → date_of n ≡ None → (n ≡ 0) ⊎ (3652425 < n)
  -- the order of days is the order of their numbers
  pub same_order : (a b : Date) → real a ≡ true → real b ≡ true → earlier a b ≡ nat_lt (number a) (number b)
