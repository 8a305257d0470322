-- The daylight of the law, by Sundays.
use Rattle.std.specs.Prelude.{ℕ, Bool, false, Some, None, Option}
use Rattle.std.specs.Option.{option_map}
use Rattle.calendar.specs.declared.date.Date.{Date}
use Rattle.calendar.specs.Weekdays.{nth_sunday}
use Rattle.daylight.specs.declared.span.MonthDay.{MonthDay}
use Rattle.daylight.specs.Spans.{between}

-- the n-th Sunday of a month, where it has so many
abbrev pub sunday_of : ℕ → ℕ → ℕ → Option MonthDay
sunday_of y m n = option_map (λ d. record { month = m; day = d }) (nth_sunday y m n)

abbrev pub second_sunday_of_march : ℕ → Option MonthDay
second_sunday_of_march y = sunday_of y 3 2

abbrev pub first_sunday_of_november : ℕ → Option MonthDay
first_sunday_of_november y = sunday_of y 11 1

-- from the one day to the other, where both are there
abbrev pub between_both : Option MonthDay → Option MonthDay → Date × ℕ → Bool
between_both None last r = false
between_both (Some first) None r = false
between_both (Some first) (Some last) r = between first last r

abbrev pub law_daylight : Date × ℕ → Bool
law_daylight r = between_both (second_sunday_of_march r.0.year) (first_sunday_of_november r.0.year) r
