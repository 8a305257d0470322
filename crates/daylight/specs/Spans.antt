-- The part of a year between two days, each at 02:00.
use Rattle.std.specs.Prelude.{ℕ, Bool, not, ◌&&◌, ◌||◌, ◌==◌, nat_lt}
use Rattle.calendar.specs.declared.date.Date.{Date}
use Rattle.daylight.specs.declared.span.MonthDay.{MonthDay}

-- a reading before 02:00 on a day of its year: month, day and second compared in this order
unfoldable pub before_change : Date × ℕ → MonthDay → Bool
before_change r c =
    nat_lt r.0.month c.month
    || (r.0.month == c.month && (nat_lt r.0.day c.day || (r.0.day == c.day && nat_lt r.1 7200)))

-- from 02:00 on the first day to before 02:00 on the last
unfoldable pub between : MonthDay → MonthDay → Date × ℕ → Bool
between first last r = not (before_change r first) && before_change r last
