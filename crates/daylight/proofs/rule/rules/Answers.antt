use Rattle.daylight.proofs.Sundays.{rules as TheLaw}
use Rattle.daylight.proofs.rule.rules.Goals as goal

pub returns : goal.returns
returns c = TheLaw
