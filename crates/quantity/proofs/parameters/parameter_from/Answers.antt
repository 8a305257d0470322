use Rattle.std.proofs.Common.{sym, ◌∙◌}
use Rattle.quantity.proofs.Checks.{no_code, granted, denied}
use Rattle.quantity.proofs.parameters.parameter_from.Goals as goal

pub returns-in_err-code : goal.returns-in_err-code
returns-in_err-code c = rw c.from_residual.ensures (no_code c.args.signs c.args.duration c.in_err-code.ensures)

pub returns-then-goes_with : goal.returns-then-goes_with
returns-then-goes_with c = granted c.args.signs c.args.duration c.in_ok-code.code.signs c.in_ok-code.ensures (sym c.goes_with.ensures ∙ c.if-goes_with.true)

pub returns-else-goes_with : goal.returns-else-goes_with
returns-else-goes_with c = denied c.args.signs c.args.duration c.in_ok-code.code.signs c.in_ok-code.ensures (sym c.goes_with.ensures ∙ c.if-goes_with.false)
