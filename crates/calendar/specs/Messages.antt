-- Dates as messages write them: mmdd, yymmdd or ccyymmdd.
use Rattle.std.specs.Prelude.{ℕ, ◌+◌, ◌-◌, ◌*◌, cond, List, length, Some, None, Option, ◌==◌, nat_le, slice_index}
use Rattle.text.specs.Signs.{pair_of}
use Rattle.calendar.specs.declared.date.Date.{Date}
use Rattle.calendar.specs.Dates.{number, message_day}
use Rattle.calendar.specs.Ways.{and_then}

abbrev pub apart : ℕ → ℕ → ℕ
apart a b = (a - b) + (b - a)

-- the year of two digits, of the century 19 or 20 that is nearest to the current year, a tie going to the earlier
abbrev pub full_year : ℕ → ℕ → ℕ
full_year cur two = cond (nat_le (apart cur (1900 + two)) (apart cur (2000 + two))) (1900 + two) (2000 + two)

-- the date, if it is a real day of 1900 to 2099
unfoldable pub candidate : ℕ → ℕ → ℕ → Option Date
candidate y m d = let date : Date = record { year = y; month = m; day = d } in cond (message_day date) (Some date) None

-- of two candidates, the earlier first, the one nearer to a day's number
unfoldable pub nearer : ℕ → Option Date → Option Date → Option Date
nearer n None e = e
nearer n (Some d) None = Some d
nearer n (Some d) (Some e) = Some (cond (nat_le (apart n (number d)) (apart n (number e))) d e)

-- of the years before, at and after the current one, the nearest day
unfoldable pub nearest_date : Date → ℕ → ℕ → Option Date
nearest_date cur m d =
    nearer (number cur) (candidate (cur.year - 1) m d)
    (nearer (number cur) (candidate cur.year m d) (candidate (cur.year + 1) m d))

abbrev pub pair_at : List ℕ → ℕ → Option ℕ
pair_at s i = pair_of (slice_index s i) (slice_index s (i + 1))

abbrev pub month_day : List ℕ → Date → Option Date
month_day s cur = and_then (pair_at s 0) (λ m. and_then (pair_at s 2) (λ d. nearest_date cur m d))

-- the century is chosen first, and the day judged after
abbrev pub year_month_day : List ℕ → Date → Option Date
year_month_day s cur = and_then (pair_at s 0) (λ y. and_then (pair_at s 2) (λ m. and_then (pair_at s 4) (λ d. candidate (full_year cur.year y) m d)))

abbrev pub whole_date : List ℕ → Option Date
whole_date s = and_then (pair_at s 0) (λ c. and_then (pair_at s 2) (λ y. and_then (pair_at s 4) (λ m. and_then (pair_at s 6) (λ d. candidate (c * 100 + y) m d))))

unfoldable pub message_date : List ℕ → Date → Option Date
message_date s cur =
    cond (length s == 4) (month_day s cur) (cond (length s == 6) (year_month_day s cur) (cond (length s == 8) (whole_date s) None))
