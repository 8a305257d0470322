use Rattle.std.proofs.Common.{sym, ap}
use Rattle.quantity.specs.Values.{value_of}
use Rattle.values.specs.Writing.{written}
use Rattle.values.proofs.write.value_text.Goals as goal

pub returns-in-Missing : goal.returns-in-Missing
unfolding written
returns-in-Missing c = sym (ap (λ v. written (value_of v)) c.in-Missing.is)
