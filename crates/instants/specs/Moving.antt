-- What moves do, in words of the calendar: where they land, and that they fail only where the calendar has no such place.
use Rattle.std.specs.Prelude.{◌≡◌, ℕ, ◌<◌, ◌≤◌, min, true, false, ℤ, pos, ◌+ℤ◌, ◌*ℤ◌, nat_abs, Some, None, Option, ◌≢◌}
use Rattle.calendar.specs.declared.date.Date.{Date}
use Rattle.instants.specs.declared.moves.Unit as the_unit
use Rattle.instants.specs.declared.moves.Unit.TheVariants.{Second, Minute, Hour, Day, Month, Year, MonthEnd}
use Rattle.calendar.specs.Dates.{month_length, real, message_day, number}
use Rattle.instants.specs.Moves.{instant, month_place, moved}

-- the real reading at a place on the line of instants, its second below 86,400
abbrev pub AtInstant : ℤ → Option (Date × ℕ) → Type 0
AtInstant z None = (q : Date × ℕ) → real q.0 ≡ true → q.1 < 86400 → pos (instant q) ≢ z
AtInstant z (Some q) = (real q.0 ≡ true) × (q.1 < 86400) × (pos (instant q) ≡ z)

-- the real date with a number, at the second s
abbrev pub AtDay : ℕ → ℤ → Option (Date × ℕ) → Type 0
AtDay s z None = (d : Date) → real d ≡ true → pos (number d) ≢ z
AtDay s z (Some q) = (real q.0 ≡ true) × (q.1 ≡ s) × (pos (number q.0) ≡ z)

-- the real date in the month at a place, on the day that the month's length gives, at the second s
abbrev pub InMonth : ℕ → (ℕ → ℕ) → ℤ → Option (Date × ℕ) → Type 0
InMonth s day_for z None = (d : Date) → real d ≡ true → pos (month_place d) ≢ z
InMonth s day_for z (Some q) =
    (real q.0 ≡ true) × (q.1 ≡ s) × (pos (month_place q.0) ≡ z) × (q.0.day ≡ day_for (month_length q.0.year q.0.month))

pub record Moving : Type 0 where
  -- seconds, minutes and hours are added on the line of instants
  pub seconds : (r : Date × ℕ) (z : ℤ) → real r.0 ≡ true → AtInstant (pos (instant r) +ℤ z) (moved r Second z)
  pub minutes : (r : Date × ℕ) (z : ℤ) → real r.0 ≡ true → AtInstant (pos (instant r) +ℤ pos 60 *ℤ z) (moved r Minute z)
  pub hours : (r : Date × ℕ) (z : ℤ) → real r.0 ≡ true → AtInstant (pos (instant r) +ℤ pos 3600 *ℤ z) (moved r Hour z)
  -- days are added to the number of the day, and two moves by days are one by their sum
  pub days : (r : Date × ℕ) (z : ℤ) → real r.0 ≡ true → AtDay r.1 (pos (number r.0) +ℤ z) (moved r Day z)
  pub days_twice : (r q : Date × ℕ) (m n : ℤ) → moved r Day m ≡ Some q → moved q Day n ≡ moved r Day (m +ℤ n)
  -- months and years land in the wanted month, on the wanted day or its cut, or on the last day
  pub months : (r : Date × ℕ) (z : ℤ) → real r.0 ≡ true → InMonth r.1 (min r.0.day) (pos (month_place r.0) +ℤ z) (moved r Month z)
  pub years : (r : Date × ℕ) (z : ℤ) → real r.0 ≡ true → InMonth r.1 (min r.0.day) (pos (month_place r.0) +ℤ pos 12 *ℤ z) (moved r Year z)
  pub same_month : (r q : Date × ℕ) (z : ℤ) → moved r Year z ≡ Some q → (q.0.month ≡ r.0.month) × (pos q.0.year ≡ pos r.0.year +ℤ z)
  pub month_ends : (r : Date × ℕ) (z : ℤ) → real r.0 ≡ true → InMonth r.1 (λ len. len) (pos (month_place r.0) +ℤ z) (moved r MonthEnd z)
  -- from a day of 1900 to 2099 no move by at most 99 leaves the calendar
  pub stays_inside : (r : Date × ℕ) (u : the_unit.Unit) (z : ℤ) → message_day r.0 ≡ true → r.1 ≤ 86400 → nat_abs z ≤ 99 → moved r u z ≢ None
  -- a date that is not real is not moved
  pub unreal : (r : Date × ℕ) (u : the_unit.Unit) (z : ℤ) → real r.0 ≡ false → moved r u z ≡ None
