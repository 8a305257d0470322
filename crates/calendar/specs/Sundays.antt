-- What weekdays and the Sundays of a month keep of the calendar.
use Rattle.std.specs.Prelude.{◌≡◌, ℕ, ◌≤◌, true, length, Some, None, ◌≢◌}
use Rattle.calendar.specs.declared.date.Date.{Date}
use Rattle.calendar.specs.declared.weekday.Weekday as the_weekday
use Rattle.calendar.specs.declared.weekday.Weekday.TheVariants.{Sunday, Monday, Tuesday, Wednesday, Thursday, Friday, Saturday}
use Rattle.calendar.specs.Dates.{month_length, real, next_day}
use Rattle.calendar.specs.Weekdays.{weekday, sundays, nth_sunday}

abbrev pub weekday_after : the_weekday.Weekday → the_weekday.Weekday
weekday_after Sunday = Monday
weekday_after Monday = Tuesday
weekday_after Tuesday = Wednesday
weekday_after Wednesday = Thursday
weekday_after Thursday = Friday
weekday_after Friday = Saturday
weekday_after Saturday = Sunday

-- a day of a month that is a Sunday, with n Sundays of the month up to it and with it
pub record NthSunday (y m n d : ℕ) : Type 0 where
  pub not_before : 1 ≤ d
  pub not_after : d ≤ month_length y m
  pub is_sunday : weekday (record { year = y; month = m; day = d }) ≡ Sunday
  pub counted : length (sundays y m d) ≡ n

pub record WeekdayLaws : Type 0 where
  -- the next day has the next weekday, and 10 March 2024 is a Sunday
  pub next_weekday : (d : Date) → real d ≡ true → weekday (next_day d) ≡ weekday_after (weekday d)
  pub known : weekday (record { year = 2024; month = 3; day = 10 }) ≡ Sunday
  -- the n-th Sunday is the day that is a Sunday with n of them up to it, and there is no other such day
  pub nth_is : (y m n d : ℕ) → nth_sunday y m n ≡ Some d → NthSunday y m n d
  pub nth_only : (y m n d : ℕ) → NthSunday y m n d → nth_sunday y m n ≡ Some d
  -- a month of 28 days or more has a first to a fourth
  pub four : (y m n : ℕ) → 28 ≤ month_length y m → 1 ≤ n → n ≤ 4 → nth_sunday y m n ≢ None
