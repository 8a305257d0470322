-- The lengths of months, and the days that count.
use Rattle.std.specs.Prelude.{ℕ, ◌%◌, Bool, cond, ◌&&◌, ◌==◌, [], ◌∷◌, nat_le}
use Rattle.std.specs.List.{list_any}
use Rattle.second_time.specs.declared.days.Day.{Day}

-- each fourth year; of the years that end a century, each fourth of these
abbrev pub is_leap : ℕ → Bool
is_leap year = cond (year % 100 == 0) (year % 400 == 0) (year % 4 == 0)

-- April, June, September and November have 30 days
abbrev pub has_thirty : ℕ → Bool
has_thirty month = list_any (λ m. m == month) (4 ∷ 6 ∷ 9 ∷ 11 ∷ [])

unfoldable pub days_of_month : ℕ → ℕ → ℕ
days_of_month year month = cond (month == 2) (cond (is_leap year) 29 28) (cond (has_thirty month) 30 31)

-- a day that there is, of the years 1900 to 2099
abbrev pub is_counted : Day → Bool
is_counted d =
    nat_le 1900 d.year && nat_le d.year 2099 && nat_le 1 d.month && nat_le d.month 12 && nat_le 1 d.day && nat_le d.day (days_of_month d.year d.month)
