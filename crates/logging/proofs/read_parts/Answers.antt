use Rattle.std.proofs.lemmas.Result.{err_from_is_err_and}
use Rattle.daylight.specs.Settings.{told}
use Rattle.events.proofs.Passes.{comes_err}
use Rattle.merging.specs.Merging.{sided}
use Rattle.messages.specs.Models.{common, reached}
use Rattle.logging.proofs.Following.{read_more, read_stopped}
use Rattle.logging.proofs.read_parts.Goals as goal

pub returns-in_err-progress : goal.returns-in_err-progress
returns-in_err-progress g c =
    let p = err_from_is_err_and c.from_residual.result c.from_residual.ensures.1 in
    record {
      cases = comes_err _ _ _ _ p.1 p.2 (read_stopped (told g.R.Rule.daylight c.args.setting.now) (common c.args.message.now) (reached c.loop-part.progress) (sided c.in-Some.part) (g.P.Parts.ahead c.next_part.new.self) c.in-Some.ensures.step c.loop-part.invariant.0 c.in_err-progress.ensures.cases);
      frame = g.S.Sink.ties.goes _ _ _ c.loop-part.invariant.1 c.take_part.ensures.frame;
    }

pub loop-part-preserved : goal.loop-part-preserved
loop-part-preserved g c = (
  read_more (told g.R.Rule.daylight c.args.setting.now) (common c.args.message.now) (reached c.loop-part.progress) (sided c.in-Some.part) (g.P.Parts.ahead c.next_part.new.self) (reached c.in_ok-progress.progress) c.in-Some.ensures.step c.loop-part.invariant.0 c.in_ok-progress.ensures.cases,
  g.S.Sink.ties.goes _ _ _ c.loop-part.invariant.1 c.take_part.ensures.frame,
)
