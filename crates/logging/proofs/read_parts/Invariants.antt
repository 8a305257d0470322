use Rattle.std.proofs.Common.{length}
use Rattle.daylight.specs.Settings.{told}
use Rattle.events.specs.Passing.{Passed}
use Rattle.messages.specs.Models.{common, reached}
use Rattle.logging.specs.Follow.{follow}
use Rattle.logging.proofs.read_parts.Given as goal

abbrev pub invariant-loop-part : goal.invariant-loop-part
invariant-loop-part g l =
    let S = told g.R.Rule.daylight l.setting in
    Passed (g.S.Sink.holds l.initial.sink) (g.S.Sink.holds l.sink)
    (follow S (common l.message) (reached l.initial.progress) (g.P.Parts.ahead l.initial.parts))
    (follow S (common l.message) (reached l.progress) (g.P.Parts.ahead l.parts))
    × g.S.Sink.frame l.initial.sink l.sink

abbrev pub decreases-loop-part : goal.decreases-loop-part
decreases-loop-part g l = length (g.P.Parts.ahead l.parts)
