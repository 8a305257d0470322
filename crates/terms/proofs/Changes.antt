-- What items change. Assumes nothing.
use Rattle.std.proofs.Common.{◌≡◌, ℕ, Bool, cond, List, [], ◌∷◌, Some, None, Option, refl, arith}
use Rattle.std.specs.Option.{option_map}
use Rattle.calendar.specs.declared.date.Date.{Date}
use Rattle.instants.specs.declared.moves.Move.{Move}
use Rattle.calendar.specs.Ways.{and_then}
use Rattle.daylight.specs.declared.zone.Zone.{Zone}
use Rattle.terms.specs.declared.stage.Stage as the_stage
use Rattle.terms.specs.declared.stage.Stage.TheVariants.{Free, BeforeSteps, AmongSteps}
use Rattle.terms.specs.Items.{kind_item, after_item}
use Rattle.terms.specs.Settings.{at_groups, made_at, in_units, lasting, moved_by, every, created_item, units_item, variable_item, relative_item, interval_item, clock_item}
use Rattle.terms.specs.Stages.{before_steps, among_steps}
use Rattle.terms.specs.Standing.{Standing}
use Rattle.terms.specs.TermLaws.{except_one, SameTime}

-- what an item of each kind changes
created_one : (today : Date) (daylight : Date × ℕ → Bool) (zone : Zone) (rest : List ℕ) (s t : Standing) → created_item today daylight zone rest s ≡ Some t → t ≡ made_at s t.created
unfolding created_item
created_one today daylight zone rest s t e = grind arith

units_one : (rest : List ℕ) (s t : Standing) → units_item rest s ≡ Some t → t ≡ in_units s t.units
unfolding units_item
units_one rest s t e = grind arith

variable_one : (rest : List ℕ) (s t : Standing) → variable_item rest s ≡ Some t → t ≡ lasting s t.variable
unfolding variable_item
variable_one rest s t e = grind arith

relative_one : (stage : the_stage.Stage) (rest : List ℕ) (s t : Standing) → relative_item stage rest s ≡ Some t → t ≡ moved_by s t.relative
unfolding relative_item
relative_one stage rest s t e = grind arith

interval_one : (stage : the_stage.Stage) (rest : List ℕ) (s t : Standing) → interval_item stage rest s ≡ Some t → t ≡ every s t.interval
unfolding interval_item
interval_one stage rest s t e = grind arith

no_interval_item : (rest : List ℕ) (s : Standing) → interval_item Free rest s ≡ None
unfolding interval_item
no_interval_item rest s = refl

clock_one : (cur : ℕ) (stage : the_stage.Stage) (letter : ℕ) (rest : List ℕ) (s t : Standing) → clock_item cur stage letter rest s ≡ Some t → t ≡ at_groups s t.groups
unfolding clock_item
clock_one cur stage letter rest s t e = grind arith

pub one_term : (today : Date) (daylight : Date × ℕ → Bool) (zone : Zone) (stage : the_stage.Stage) (letter : ℕ) (rest : List ℕ) (s t : Standing)
    → after_item today daylight zone stage (68 ∷ letter ∷ rest) s ≡ Some t → t ≡ except_one letter s t
unfolding after_item kind_item
one_term today daylight zone stage letter rest s t e = grind (arith, created_one, units_one, variable_one, relative_one, interval_one, clock_one)

pub among_steps_lem : (today : Date) (daylight : Date × ℕ → Bool) (zone : Zone) (item : List ℕ) (s t : Standing)
    → after_item today daylight zone AmongSteps item s ≡ Some t → SameTime s t
unfolding after_item kind_item created_item units_item variable_item relative_item interval_item clock_item
among_steps_lem today daylight zone [] s t e = grind arith
among_steps_lem today daylight zone (d ∷ []) s t e = grind arith
among_steps_lem today daylight zone (d ∷ letter ∷ rest) s t e = record { groups = grind arith; relative = grind arith; interval = grind arith }

pub no_interval : (today : Date) (daylight : Date × ℕ → Bool) (zone : Zone) (item : List ℕ) (s t : Standing)
    → after_item today daylight zone Free item s ≡ Some t → t.interval ≡ s.interval
unfolding after_item kind_item
no_interval today daylight zone [] s t e = grind arith
no_interval today daylight zone (d ∷ []) s t e = grind arith
no_interval today daylight zone (d ∷ letter ∷ rest) s t e = grind (arith, created_one, units_one, variable_one, relative_one, no_interval_item, clock_one)

abbrev relative : the_stage.Stage → Option Move → Standing → Option Standing
relative stage m s = cond (among_steps stage) None (option_map (λ x. moved_by s (Some x)) m)

abbrev interval : the_stage.Stage → Option Move → Standing → Option Standing
interval stage m s = cond (before_steps stage) (option_map (λ x. every s (Some x)) m) None

order : (stage : the_stage.Stage) (a b : Option Move) (s : Standing)
    → and_then (relative stage a s) (λ t. interval stage b t) ≡ and_then (interval stage b s) (λ t. relative stage a t)
order Free None b s = refl
order Free (Some m) b s = refl
order BeforeSteps None None s = refl
order BeforeSteps None (Some n) s = refl
order BeforeSteps (Some m) None s = refl
order BeforeSteps (Some m) (Some n) s = refl
order AmongSteps a b s = refl

pub either_order : (today : Date) (daylight : Date × ℕ → Bool) (zone : Zone) (stage : the_stage.Stage) (a b : List ℕ) (s : Standing)
    → and_then (after_item today daylight zone stage (68 ∷ 82 ∷ a) s) (λ t. after_item today daylight zone stage (68 ∷ 73 ∷ b) t)
    ≡ and_then (after_item today daylight zone stage (68 ∷ 73 ∷ b) s) (λ t. after_item today daylight zone stage (68 ∷ 82 ∷ a) t)
unfolding after_item kind_item relative_item interval_item
either_order today daylight zone stage a b s = grind arith
