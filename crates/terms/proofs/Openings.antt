-- Opening times and steps without moves. Assumes nothing.
use Rattle.std.proofs.Common.{◌≡◌, ℕ, ◌+◌, ◌*◌, ◌/◌, ◌%◌, Bool, true, false, cond, eqb, Some, None, Option, refl, ap, ◌∙◌, arith}
use Rattle.std.proofs.lemmas.Bool.{cond-true}
use Rattle.std.specs.Option.{option_map}
use Rattle.calendar.specs.declared.date.Date.{Date}
use Rattle.instants.specs.declared.moves.Move.{Move}
use Rattle.calendar.specs.Dates.{message_day}
use Rattle.calendar.specs.Messages.{candidate}
use Rattle.calendar.specs.Ways.{and_then}
use Rattle.daylight.specs.declared.zone.Zone.{Zone}
use Rattle.ditems.specs.Groups.{groups_at}
use Rattle.ditems.specs.Readings.{day_of, second_of, reading_of}
use Rattle.daylight.specs.Utc.{utc_of}
use Rattle.terms.specs.Observed.{shifted, step_reading, observed_at}
use Rattle.terms.specs.Settings.{moved_by, every}
use Rattle.terms.specs.Standing.{Standing, opening}

day_at : (d : Date) (h : ℕ) → message_day d ≡ true → day_of (groups_at d h) ≡ Some d
unfolding day_of candidate
day_at d h ok =
    let year : (d.year / 100) * 100 + d.year % 100 ≡ d.year = omega arith in
    ap (λ (y : ℕ). candidate y d.month d.day) year ∙ cond-true (message_day d) (Some d) None ok

second_at : (d : Date) (utc : Bool) → second_of (groups_at d (cond utc 12 24)) ≡ Some (cond utc 43200 86400)
unfolding second_of
second_at d true = refl
second_at d false = refl

pub opens : (d : Date) (zone : Zone) → message_day d ≡ true → reading_of (opening d zone).groups ≡ Some (d, cond (eqb zone.hours 0) 43200 86400)
opens d zone ok =
    let utc = eqb zone.hours 0 in
    ap (λ (o : Option Date). and_then o (λ x. option_map {U = Date × ℕ} (λ s. (x, s)) (second_of (groups_at d (cond utc 12 24))))) (day_at d (cond utc 12 24) ok)
    ∙ ap (option_map {U = Date × ℕ} (λ (s : ℕ). (d, s))) (second_at d utc)

pub first_step : (daylight : Date × ℕ → Bool) (zone : Zone) (s : Standing) (m : Option Move) → observed_at daylight zone (every s m) 0 ≡ observed_at daylight zone s 0
unfolding observed_at step_reading
first_step daylight zone s m = refl

pub unmoved : (daylight : Date × ℕ → Bool) (zone : Zone) (s : Standing)
    → observed_at daylight zone (moved_by s None) 0 ≡ and_then (reading_of s.groups) (utc_of daylight zone)
unfolding observed_at step_reading shifted
unmoved daylight zone s = refl
