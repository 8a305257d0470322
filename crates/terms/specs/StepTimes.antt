-- How far apart the steps of a series lie.
use Rattle.std.specs.Prelude.{◌≡◌, ℕ, ◌<◌, Bool, ℤ, pos, ◌+ℤ◌, ◌*ℤ◌, Some, None, Option}
use Rattle.calendar.specs.declared.date.Date.{Date}
use Rattle.instants.specs.declared.moves.Move.{Move}
use Rattle.instants.specs.declared.moves.Unit as the_unit
use Rattle.instants.specs.declared.moves.Unit.TheVariants.{Second, Minute, Hour, Day, Month, Year, MonthEnd}
use Rattle.instants.specs.Moves.{instant}
use Rattle.daylight.specs.declared.zone.Zone.{Zone}
use Rattle.terms.specs.Observed.{observed_at}
use Rattle.terms.specs.Settings.{moved_by}
use Rattle.terms.specs.Standing.{Standing}
use Rattle.terms.specs.TermLaws.{SameTime}

-- the length of a unit in seconds; months and years have none of their own
abbrev pub unit_seconds : the_unit.Unit → Option ℕ
unit_seconds Second = Some 1
unit_seconds Minute = Some 60
unit_seconds Hour = Some 3600
unit_seconds Day = Some 86400
unit_seconds Month = None
unit_seconds Year = None
unit_seconds MonthEnd = None

-- a time so many seconds behind another, or before it
abbrev pub LiesBehind : ℤ → Date × ℕ → Date × ℕ → Type 0
LiesBehind seconds p q = pos (instant q) ≡ pos (instant p) +ℤ seconds

pub record StepTimes : Type 0 where
  -- by an interval of seconds, minutes, hours or days the steps lie evenly: each so many times the interval behind the first
  pub even : (daylight : Date × ℕ → Bool) (zone : Zone) (s : Standing) (m : Move) (n i : ℕ) (p q : Date × ℕ)
      → s.interval ≡ Some m → unit_seconds m.unit ≡ Some n → 0 < i
      → observed_at daylight zone s 0 ≡ Some p → observed_at daylight zone s i ≡ Some q → LiesBehind (pos n *ℤ (pos i *ℤ m.count)) p q
  -- a relative move of such units puts the first step that far behind the time that it has without one
  pub first : (daylight : Date × ℕ → Bool) (zone : Zone) (s : Standing) (m : Move) (n : ℕ) (p q : Date × ℕ)
      → s.relative ≡ Some m → unit_seconds m.unit ≡ Some n
      → observed_at daylight zone (moved_by s None) 0 ≡ Some p → observed_at daylight zone s 0 ≡ Some q → LiesBehind (pos n *ℤ (pos 1 *ℤ m.count)) p q
  -- and nothing else than the start, DR and DI tells the time of a step
  pub same : (daylight : Date × ℕ → Bool) (zone : Zone) (s t : Standing) (i : ℕ) → SameTime s t → observed_at daylight zone s i ≡ observed_at daylight zone t i
