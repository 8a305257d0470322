-- Laws of the terms and of observation times.
use Rattle.std.specs.Prelude.{◌≡◌, ℕ, Bool, true, cond, List, ◌∷◌, Some, None, Option, ◌==◌}
use Rattle.calendar.specs.declared.date.Date.{Date}
use Rattle.instants.specs.declared.moves.Move.{Move}
use Rattle.calendar.specs.Dates.{message_day}
use Rattle.calendar.specs.Ways.{and_then}
use Rattle.daylight.specs.declared.zone.Zone.{Zone}
use Rattle.ditems.specs.Readings.{reading_of}
use Rattle.terms.specs.declared.stage.Stage as the_stage
use Rattle.terms.specs.declared.stage.Stage.TheVariants.{Free, AmongSteps}
use Rattle.daylight.specs.Utc.{utc_of}
use Rattle.terms.specs.Items.{after_item}
use Rattle.terms.specs.Observed.{observed_at}
use Rattle.terms.specs.Settings.{at_groups, made_at, in_units, lasting, moved_by, every}
use Rattle.terms.specs.Standing.{Standing, opening}

-- the terms s, but for the one that items of this letter set, which is taken from t
abbrev pub except_one : ℕ → Standing → Standing → Standing
except_one letter s t =
    cond (letter == 67) (made_at s t.created)
    (cond (letter == 85) (in_units s t.units)
    (cond (letter == 86) (lasting s t.variable)
    (cond (letter == 82) (moved_by s t.relative)
    (cond (letter == 73) (every s t.interval)
    (at_groups s t.groups)))))

pub record SameTime (s t : Standing) : Type 0 where
  pub groups : t.groups ≡ s.groups
  pub relative : t.relative ≡ s.relative
  pub interval : t.interval ≡ s.interval

pub record TermLaws : Type 0 where
  -- an item changes the one term of its kind and leaves the others alone
  pub one_term : (today : Date) (daylight : Date × ℕ → Bool) (zone : Zone) (stage : the_stage.Stage) (letter : ℕ) (rest : List ℕ) (s t : Standing)
      → after_item today daylight zone stage (68 ∷ letter ∷ rest) s ≡ Some t → t ≡ except_one letter s t
  -- from the first step on no item changes the time, the relative move or the interval
  pub among_steps_lem : (today : Date) (daylight : Date × ℕ → Bool) (zone : Zone) (item : List ℕ) (s t : Standing)
      → after_item today daylight zone AmongSteps item s ≡ Some t → SameTime s t
  -- where there are no steps no item sets an interval
  pub no_interval : (today : Date) (daylight : Date × ℕ → Bool) (zone : Zone) (item : List ℕ) (s t : Standing)
      → after_item today daylight zone Free item s ≡ Some t → t.interval ≡ s.interval
  -- a DR (82) and a DI (73) item may come in either order
  pub either_order : (today : Date) (daylight : Date × ℕ → Bool) (zone : Zone) (stage : the_stage.Stage) (a b : List ℕ) (s : Standing)
      → and_then (after_item today daylight zone stage (68 ∷ 82 ∷ a) s) (λ t. after_item today daylight zone stage (68 ∷ 73 ∷ b) t)
      ≡ and_then (after_item today daylight zone stage (68 ∷ 73 ∷ b) s) (λ t. after_item today daylight zone stage (68 ∷ 82 ∷ a) t)
  -- a message opens at 12:00 in UTC and at 24:00 elsewhere, on its date
  pub opens : (d : Date) (zone : Zone) → message_day d ≡ true → reading_of (opening d zone).groups ≡ Some (d, cond (zone.hours == 0) 43200 86400)
  -- the interval does not move step 0
  pub first_step : (daylight : Date × ℕ → Bool) (zone : Zone) (s : Standing) (m : Option Move) → observed_at daylight zone (every s m) 0 ≡ observed_at daylight zone s 0
  -- with no relative move step 0 is the reading itself, in UTC
  pub unmoved : (daylight : Date × ℕ → Bool) (zone : Zone) (s : Standing)
      → observed_at daylight zone (moved_by s None) 0 ≡ and_then (reading_of s.groups) (utc_of daylight zone)
