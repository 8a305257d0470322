-- What a D item makes of the terms that stand: D, the letter of its kind, and the rest.
use Rattle.std.specs.Prelude.{ℕ, Bool, cond, List, [], ◌∷◌, None, Option, ◌==◌}
use Rattle.calendar.specs.declared.date.Date.{Date}
use Rattle.daylight.specs.declared.zone.Zone.{Zone}
use Rattle.terms.specs.declared.stage.Stage as the_stage
use Rattle.terms.specs.Standing.{Standing}
use Rattle.terms.specs.Settings.{created_item, units_item, variable_item, relative_item, interval_item, clock_item}

-- by the letter of its kind: C, U, V, R, I, or else one of the seven of the time
unfoldable pub kind_item : Date → (Date × ℕ → Bool) → Zone → the_stage.Stage → ℕ → List ℕ → Standing → Option Standing
kind_item today daylight zone stage letter rest s =
    cond (letter == 67) (created_item today daylight zone rest s)
    (cond (letter == 85) (units_item rest s)
    (cond (letter == 86) (variable_item rest s)
    (cond (letter == 82) (relative_item stage rest s)
    (cond (letter == 73) (interval_item stage rest s)
    (clock_item today.year stage letter rest s)))))

-- nothing where the item breaks its rule or may not stand there
unfoldable pub after_item : Date → (Date × ℕ → Bool) → Zone → the_stage.Stage → List ℕ → Standing → Option Standing
after_item today daylight zone stage [] s = None
after_item today daylight zone stage (d ∷ []) s = None
after_item today daylight zone stage (d ∷ letter ∷ rest) s = cond (d == 68) (kind_item today daylight zone stage letter rest s) None
