use Rattle.line.proofs.Back.{date_back}
use Rattle.line.proofs.columns.date_in.Goals as goal

pub returns : goal.returns
returns c d rest shown e =
    date_back c.args.column.now d rest shown e c.number_in.result c.pair.result c.pair-2.result c.number_in.ensures.says c.pair.ensures.says c.pair-2.ensures.says
