use Rattle.std.proofs.Common.{◌∙◌, arith}
use Rattle.events.specs.Events.{records}
use Rattle.daylight.specs.Settings.{setting}
use Rattle.shef.specs.Decodes.{decoded}
use Rattle.shef.proofs.Whole.{sent_is}
use Rattle.shef.proofs.decode.decode.Goals as goal

pub returns-clause-delivered : goal.returns-clause-delivered
returns-clause-delivered g c =
    let S = setting c.args.today (g.R.Rule.daylight c.args.rule.now) in
    let sent = sent_is (g.S.Sink.holds c.args.sink.now) (g.S.Sink.holds c.read_text-read.new.sink) (records (decoded S c.args.text.now)) c.read_text-read.ensures.done.sink in
    omega (arith, c.saturating_sub.ensures, c.count.ensures, c.count-held.ensures) ∙ sent
