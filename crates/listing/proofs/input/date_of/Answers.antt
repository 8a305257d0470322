use Rattle.std.proofs.Common.{sym, subst}
use Rattle.listing.specs.Names.{Names}
use Rattle.listing.proofs.Dates.{eight_name, others_name}
use Rattle.listing.proofs.input.date_of.Goals as goal

pub returns-then-line-eq8 : goal.returns-then-line-eq8
returns-then-line-eq8 c =
    subst (Names c.args.line.now) (sym c.unwrap_or.ensures) (eight_name c.args.line.now c.message_date.result c.if-line-eq8.true c.message_date.ensures)

pub returns-else-line-eq8 : goal.returns-else-line-eq8
returns-else-line-eq8 c = others_name c.args.line.now c.if-line-eq8.false
