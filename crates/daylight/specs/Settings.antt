-- What a decode is told besides the text.
use Rattle.std.specs.Prelude.{ℕ, Bool}
use Rattle.calendar.specs.declared.date.Date.{Date}
use Rattle.daylight.specs.declared.setting.Setting as the_setting

-- the current date, and the readings that are daylight
pub record Setting : Type 0 where
  pub today : Date
  pub daylight : Date × ℕ → Bool

abbrev pub setting : Date → (Date × ℕ → Bool) → Setting
setting d f = record { today = d; daylight = f }

-- by the daylight of its rule
abbrev pub told : {R : Type 0} → (R → Date × ℕ → Bool) → the_setting.Setting R → Setting
told daylight s = setting s.today (daylight s.rule.now)
