use Rattle.std.proofs.Common.{arith}
use Rattle.line.proofs.Back.{four_back}
use Rattle.line.proofs.columns.number_in.Goals as goal

pub returns : goal.returns
returns c = record {
  says = λ n rest h e. let back = four_back c.args.column.now c.pair.result c.pair-2.result n rest c.pair.ensures.says c.pair-2.ensures.says h e in omega arith;
  small = omega (arith, c.pair.ensures.small, c.pair-2.ensures.small);
}
