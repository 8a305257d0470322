use Rattle.std.proofs.Common.{◌≡◌, length}
use Rattle.daylight.specs.Settings.{told}
use Rattle.reader.specs.Lines.{lines_ahead}
use Rattle.sink.specs.Logs.{of_slots}
use Rattle.sink.specs.Tables.{Grown}
use Rattle.stages.specs.Machines.{stage_of, Tied}
use Rattle.shef.specs.Texts.{events, to_come}
use Rattle.shef.proofs.Whole.{Turning}
use Rattle.shef.proofs.decode.read_text.Given as goal

abbrev pub invariant-loop-line : goal.invariant-loop-line
invariant-loop-line g l =
    let S = told g.R.Rule.daylight l.setting in
    Turning (g.S.Sink.holds l.initial.sink) (g.S.Sink.holds l.sink) (of_slots l.initial.refused.list.now) (of_slots l.refused.list.now) (events S l.text) (to_come S (length l.text) (stage_of l.machine) (lines_ahead l.lines)) l.refused.found
    × Tied l.machine (lines_ahead l.lines)
    × g.S.Sink.frame l.initial.sink l.sink
    × Grown l.initial.refused.list.now l.refused.list.now
    × (l.refused.list.ghost_name ≡ l.initial.refused.list.ghost_name)

abbrev pub decreases-loop-line : goal.decreases-loop-line
decreases-loop-line g l = length (lines_ahead l.lines)
