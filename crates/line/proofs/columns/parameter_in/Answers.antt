use Rattle.std.proofs.Common.{[], ◌∙◌}
use Rattle.line.proofs.Durations.{duration_small, parameter_made}
use Rattle.line.proofs.columns.parameter_in.Goals as goal

pub returns : goal.returns
returns c n full fits e =
    let number = c.number_in.ensures.says n [] (duration_small c.args.code.now n fits) e in
    c.parameter_from.ensures ∙ parameter_made _ c.args.code.now _ n c.copy_from_slice.ensures.after number full fits
