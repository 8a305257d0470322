use Rattle.sink.proofs.Grown.{push_grown}
use Rattle.shef.proofs.decode.Refused.report.Goals as goal

pub returns-clause-frame : goal.returns-clause-frame
returns-clause-frame c = push_grown c.push.result c.args.self.now.list.now c.push.new.self c.args.fault c.push.ensures.cases c.push.ensures.lent
