-- Where a D item stands.
use Rattle.std.specs.Prelude.{Bool, true, false}
use Rattle.terms.specs.declared.stage.Stage as the_stage
use Rattle.terms.specs.declared.stage.Stage.TheVariants.{Free, BeforeSteps, AmongSteps}

abbrev pub before_steps : the_stage.Stage → Bool
before_steps Free = false
before_steps BeforeSteps = true
before_steps AmongSteps = false

abbrev pub among_steps : the_stage.Stage → Bool
among_steps Free = false
among_steps BeforeSteps = false
among_steps AmongSteps = true
