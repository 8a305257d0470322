-- What the daylight rules mean, in words of Sundays and of lists.
use Rattle.std.specs.Prelude.{◌≡◌, ℕ, ◌-◌, ◌<◌, ◌≤◌, false, ◌⊎◌, List, ◌∷◌, ◌++◌, Some, None, Option, ◌≢◌}
use Rattle.std.specs.List.{AllByRecursion}
use Rattle.calendar.specs.declared.date.Date.{Date}
use Rattle.calendar.specs.declared.weekday.Weekday.TheVariants.{Sunday}
use Rattle.calendar.specs.Weekdays.{weekday, nth_sunday}
use Rattle.daylight.specs.declared.span.MonthDay.{MonthDay}
use Rattle.daylight.specs.declared.list_rule.Change.{Change}
use Rattle.daylight.specs.Spans.{between}
use Rattle.daylight.specs.Sundays.{law_daylight}
use Rattle.daylight.specs.Listed.{list_daylight}

-- a Sunday of a month, from one day of the month to another
pub record SundayAmong (y m low high d : ℕ) : Type 0 where
  pub not_before : low ≤ d
  pub not_after : d ≤ high
  pub is_sunday : weekday (record { year = y; month = m; day = d }) ≡ Sunday

-- there is a day, and it is such a Sunday
abbrev pub FoundAmong : ℕ → ℕ → ℕ → ℕ → Option ℕ → Type 0
FoundAmong y m low high None = ⊥
FoundAmong y m low high (Some d) = SundayAmong y m low high d

pub record Rules : Type 0 where
  -- each year has its two Sundays
  pub march : (y : ℕ) → FoundAmong y 3 8 14 (nth_sunday y 3 2)
  pub november : (y : ℕ) → FoundAmong y 11 1 7 (nth_sunday y 11 1)
  -- daylight by law lies between them, whichever Sundays of these days are taken
  pub by_law : (r : Date × ℕ) (a b : ℕ) → SundayAmong r.0.year 3 8 14 a → SundayAmong r.0.year 11 1 7 b →
      law_daylight r ≡ between (record { month = 3; day = a }) (record { month = 11; day = b }) r
  -- the Sunday of the second week has one a week before it, so it is the second of the month
  pub week_before : (y m d : ℕ) → SundayAmong y m 8 14 d → SundayAmong y m 1 7 (d - 7)
  -- the first entry for a year counts
  pub first_entry : (cs ds : List Change) (c : Change) (r : Date × ℕ) → AllByRecursion (λ e. e.year ≢ r.0.year) cs → c.year ≡ r.0.year →
      list_daylight (cs ++ (c ∷ ds)) r ≡ between c.first c.last r
  -- an unlisted year has no daylight
  pub unlisted : (cs : List Change) (r : Date × ℕ) → AllByRecursion (λ e. e.year ≢ r.0.year) cs → list_daylight cs r ≡ false
  -- where the first day is not before the last no reading lies between them
  pub no_span : (a b : MonthDay) (r : Date × ℕ) → (b.month < a.month) ⊎ ((b.month ≡ a.month) × (b.day ≤ a.day)) → between a b r ≡ false
