-- The days of the week, and the Sundays of a month.
use Rattle.std.specs.Prelude.{ℕ, zero, suc, ◌-◌, ◌%◌, Bool, true, false, cond, List, [], ◌∷◌, None, Option, ◌==◌, slice_get}
use Rattle.std.specs.List.{filter}
use Rattle.calendar.specs.declared.date.Date.{Date}
use Rattle.calendar.specs.declared.weekday.Weekday as the_weekday
use Rattle.calendar.specs.declared.weekday.Weekday.TheVariants.{Sunday, Monday, Tuesday, Wednesday, Thursday, Friday, Saturday}
use Rattle.calendar.specs.Dates.{month_length, number}

-- the day of the week so many days after a Friday, below seven
abbrev pub after_friday : ℕ → the_weekday.Weekday
after_friday n =
    cond (n == 0) Friday
    (cond (n == 1) Saturday
    (cond (n == 2) Sunday (cond (n == 3) Monday (cond (n == 4) Tuesday (cond (n == 5) Wednesday Thursday)))))

-- 1 January of the year 0, whose number is 1, is a Saturday
unfoldable pub weekday : Date → the_weekday.Weekday
weekday d = after_friday (number d % 7)

abbrev pub is_sunday : the_weekday.Weekday → Bool
is_sunday Sunday = true
is_sunday Monday = false
is_sunday Tuesday = false
is_sunday Wednesday = false
is_sunday Thursday = false
is_sunday Friday = false
is_sunday Saturday = false

-- a day of a month that is a Sunday
abbrev pub sunday : ℕ → ℕ → ℕ → Bool
sunday y m d = is_sunday (weekday (record { year = y; month = m; day = d }))

-- so many days of a month, from one on
abbrev pub days_from : ℕ → ℕ → List ℕ
days_from d zero = []
days_from d (suc k) = d ∷ days_from (suc d) k

-- the Sundays among the first so many days of a month
abbrev pub sundays : ℕ → ℕ → ℕ → List ℕ
sundays y m k = filter (sunday y m) (days_from 1 k)

-- the n-th Sunday of a month, counted from 1
unfoldable pub nth_sunday : ℕ → ℕ → ℕ → Option ℕ
nth_sunday y m n = cond (n == 0) None (slice_get (sundays y m (month_length y m)) (n - 1))
