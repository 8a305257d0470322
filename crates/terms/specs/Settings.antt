-- What each kind of D item makes of the terms that stand.
use Rattle.std.specs.Prelude.{ℕ, Bool, cond, List, [], ◌∷◌, Some, None, Option, ◌==◌}
use Rattle.std.specs.Option.{option_map}
use Rattle.text.specs.Signs.{pair_of}
use Rattle.calendar.specs.declared.date.Date.{Date}
use Rattle.calendar.specs.Ways.{and_then}
use Rattle.instants.specs.declared.moves.Move.{Move}
use Rattle.daylight.specs.declared.zone.Zone.{Zone}
use Rattle.quantity.specs.declared.units.Units as the_units
use Rattle.quantity.specs.declared.units.Units.TheVariants.{English, Si}
use Rattle.quantity.specs.Codes.{variable_of}
use Rattle.ditems.specs.declared.groups.Groups.{Groups}
use Rattle.ditems.specs.Moves.{move_of}
use Rattle.ditems.specs.Times.{time_item}
use Rattle.terms.specs.declared.stage.Stage as the_stage
use Rattle.terms.specs.Created.{created_of}
use Rattle.terms.specs.Stages.{before_steps, among_steps}
use Rattle.terms.specs.Standing.{Standing}

-- one of the terms changed, the others left as they are
abbrev pub at_groups : Standing → Groups → Standing
at_groups s g = record { groups = g; created = s.created; units = s.units; variable = s.variable; relative = s.relative; interval = s.interval }

abbrev pub made_at : Standing → Option (Date × ℕ) → Standing
made_at s c = record { groups = s.groups; created = c; units = s.units; variable = s.variable; relative = s.relative; interval = s.interval }

abbrev pub in_units : Standing → the_units.Units → Standing
in_units s u = record { groups = s.groups; created = s.created; units = u; variable = s.variable; relative = s.relative; interval = s.interval }

abbrev pub lasting : Standing → Option ℕ → Standing
lasting s v = record { groups = s.groups; created = s.created; units = s.units; variable = v; relative = s.relative; interval = s.interval }

abbrev pub moved_by : Standing → Option Move → Standing
moved_by s m = record { groups = s.groups; created = s.created; units = s.units; variable = s.variable; relative = m; interval = s.interval }

abbrev pub every : Standing → Option Move → Standing
every s m = record { groups = s.groups; created = s.created; units = s.units; variable = s.variable; relative = s.relative; interval = m }

-- DC: the creation time
unfoldable pub created_item : Date → (Date × ℕ → Bool) → Zone → List ℕ → Standing → Option Standing
created_item today daylight zone rest s = option_map (λ c. made_at s (Some c)) (created_of today daylight zone rest)

-- DU: E (69) or S (83)
abbrev pub units_of : List ℕ → Option the_units.Units
units_of [] = None
units_of (u ∷ []) = cond (u == 69) (Some English) (cond (u == 83) (Some Si) None)
units_of (u ∷ v ∷ rest) = None

unfoldable pub units_item : List ℕ → Standing → Option Standing
units_item rest s = option_map (in_units s) (units_of rest)

unfoldable pub variable_read : ℕ → ℕ → ℕ → Option ℕ
variable_read u a b = and_then (pair_of a b) (variable_of u)

-- DV: Z (90) alone clears the variable duration, a letter and two digits set it
unfoldable pub variable_item : List ℕ → Standing → Option Standing
variable_item [] s = None
variable_item (u ∷ []) s = cond (u == 90) (Some (lasting s None)) None
variable_item (u ∷ a ∷ []) s = None
variable_item (u ∷ a ∷ b ∷ []) s = option_map (λ n. lasting s (Some n)) (variable_read u a b)
variable_item (u ∷ a ∷ b ∷ c ∷ rest) s = None

-- DR: not from the first step on
unfoldable pub relative_item : the_stage.Stage → List ℕ → Standing → Option Standing
relative_item stage rest s = cond (among_steps stage) None (option_map (λ m. moved_by s (Some m)) (move_of rest))

-- DI: only before the steps
unfoldable pub interval_item : the_stage.Stage → List ℕ → Standing → Option Standing
interval_item stage rest s = cond (before_steps stage) (option_map (λ m. every s (Some m)) (move_of rest)) None

-- DT, DY, DM, DD, DH, DN and DS: not from the first step on
unfoldable pub clock_item : ℕ → the_stage.Stage → ℕ → List ℕ → Standing → Option Standing
clock_item current stage letter rest s = cond (among_steps stage) None (option_map (at_groups s) (time_item s.groups letter current rest))
