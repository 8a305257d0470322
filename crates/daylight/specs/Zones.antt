-- Zones by their letters, each some hours behind UTC.
use Rattle.std.specs.Prelude.{ℕ, ◌-◌, ◌*◌, Bool, true, false, cond, List, [], ◌∷◌, length, Some, None, Option, ◌==◌, slice_index}
use Rattle.std.specs.Option.{option_map}
use Rattle.calendar.specs.declared.date.Date.{Date}
use Rattle.calendar.specs.Ways.{and_then}
use Rattle.daylight.specs.declared.zone.Zone.{Zone}
use Rattle.daylight.specs.declared.zone.Saving as the_saving
use Rattle.daylight.specs.declared.zone.Saving.TheVariants.{Standard, Daylight, ByRule}

-- the hours of a letter in a list of letters and hours
abbrev pub look_up : List (ℕ × ℕ) → ℕ → Option ℕ
look_up [] letter = None
look_up (e ∷ es) letter = cond (letter == e.0) (Some e.1) (look_up es letter)

-- A 4, E 5, C 6, M 7, P 8, L 9
unfoldable pub hours_of : ℕ → Option ℕ
hours_of = look_up ((65, 4) ∷ (69, 5) ∷ (67, 6) ∷ (77, 7) ∷ (80, 8) ∷ (76, 9) ∷ [])

-- what a letter behind the zone's says: S standard, D daylight time
unfoldable pub saving_of : ℕ → Option the_saving.Saving
saving_of letter = cond (letter == 83) (Some Standard) (cond (letter == 68) (Some Daylight) None)

-- a letter alone goes by the daylight rule, and Z (90) alone is UTC
unfoldable pub one_letter : ℕ → Option Zone
one_letter a =
    cond (a == 90) (Some (record { hours = 0; saving = Standard })) (option_map (λ h. record { hours = h; saving = ByRule }) (hours_of a))

unfoldable pub two_letters : ℕ → ℕ → Option Zone
two_letters a b = and_then (hours_of a) (λ h. option_map (λ s. record { hours = h; saving = s }) (saving_of b))

abbrev pub zone_of : List ℕ → Option Zone
zone_of word =
    cond (length word == 1) (one_letter (slice_index word 0))
    (cond (length word == 2) (two_letters (slice_index word 0) (slice_index word 1)) None)

-- whether daylight time is kept at a reading, under a rule
abbrev pub keeps_daylight : (Date × ℕ → Bool) → the_saving.Saving → Date × ℕ → Bool
keeps_daylight rule Standard r = false
keeps_daylight rule Daylight r = true
keeps_daylight rule ByRule r = rule r

-- daylight time is one hour less behind
abbrev pub seconds_behind : Zone → Bool → ℕ
seconds_behind z saves = (z.hours - cond saves 1 0) * 3600
