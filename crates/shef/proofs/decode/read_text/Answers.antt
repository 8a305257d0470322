use Rattle.std.proofs.Common.{List, length, Err, sym, ap, ◌∙◌, subst}
use Rattle.std.proofs.lemmas.Result.{err_from_is_err_and}
use Rattle.daylight.specs.Settings.{told}
use Rattle.reader.specs.Lines.{Piece, line_piece, lines_ahead}
use Rattle.sink.specs.Tables.{grown_ties}
use Rattle.sink.specs.Logs.{of_slots}
use Rattle.stages.specs.Machines.{stage_of, Tied}
use Rattle.stages.specs.Stages.{next, came}
use Rattle.shef.specs.Answers.{Read}
use Rattle.shef.specs.Texts.{to_come, stretches, cut}
use Rattle.shef.specs.Decodes.{answer_of, decoded, ends_here}
use Rattle.shef.proofs.Whole.{behind_line, to_come-line, to_come_skipping, records_here, turn_renamed, turn_refused, turn_passed, turn_stopped, turn_full, came_on, holds_on, read_up_to}
use Rattle.shef.proofs.decode.read_text.Goals as goal

pub loop-line-preserved : goal.loop-line-preserved
loop-line-preserved g c =
    let S = told g.R.Rule.daylight c.args.setting.now in
    let e = length c.args.text.now in
    let σ = stage_of c.loop-line.machine in
    let l = line_piece c.in-Some.line in
    let ls = lines_ahead c.next_line.new.self in
    let gave = c.in-Some.ensures.1 in
    let tie = subst (λ (x : List Piece). Tied c.loop-line.machine x) gave.next c.loop-line.invariant.1 in
    let here = turn_refused (ends_here σ l) (records_here σ l) (turn_renamed c.loop-line.invariant.0 (ap (to_come S e σ) gave.next ∙ to_come-line S e σ l ls)) c.close_before.ensures.list c.close_before.ensures.count in
    let on = c.in_default-take_line.not-Err in (
      turn_passed (came S (next S σ l)) (behind_line S e ls) (stretches S e (cut ls).1) here (came_on c.take_line.result {rest = λ k. k (stage_of c.take_line.new.self)} on (c.take_line.ensures.cases gave.fits tie)),
      holds_on c.take_line.result on (c.take_line.ensures.tied tie),
      g.S.Sink.ties.goes _ _ _ c.loop-line.invariant.2 c.take_line.ensures.frame,
      grown_ties.goes _ _ _ c.loop-line.invariant.3 c.close_before.ensures.frame,
      c.close_before.ensures.lent ∙ c.loop-line.invariant.4,
    )

pub loop-line-preserved-in-Err : goal.loop-line-preserved-in-Err
loop-line-preserved-in-Err g c =
    let S = told g.R.Rule.daylight c.args.setting.now in
    let e = length c.args.text.now in
    let σ = stage_of c.loop-line.machine in
    let l = line_piece c.in-Some.line in
    let ls = lines_ahead c.next_line.new.self in
    let gave = c.in-Some.ensures.1 in
    let tie = subst (λ (x : List Piece). Tied c.loop-line.machine x) gave.next c.loop-line.invariant.1 in
    let here = turn_refused (ends_here σ l) (records_here σ l) (turn_renamed c.loop-line.invariant.0 (ap (to_come S e σ) gave.next ∙ to_come-line S e σ l ls)) c.close_before.ensures.list c.close_before.ensures.count in
    let stopped = turn_stopped (came S (next S σ l)) (behind_line S e ls) (stretches S e (cut ls).1) c.in-Err.fault here (c.in-Err.ensures.cases gave.fits tie) c.in_ok-note.ensures.cases c.note.ensures.list c.note.ensures.count in (
      turn_renamed stopped (to_come_skipping S e ls ∙ ap (λ τ. to_come S e τ ls) (sym c.skip.ensures.stage)),
      c.skip.ensures.tied ls,
      g.S.Sink.ties.goes _ _ _ c.loop-line.invariant.2 c.take_line.ensures.frame,
      grown_ties.goes _ _ _ (grown_ties.goes _ _ _ c.loop-line.invariant.3 c.close_before.ensures.frame) c.note.ensures.frame,
      c.note.ensures.lent ∙ (c.close_before.ensures.lent ∙ c.loop-line.invariant.4),
    )

pub returns-in_err-note-clause-done : goal.returns-in_err-note-clause-done
returns-in_err-note-clause-done g c =
    let S = told g.R.Rule.daylight c.args.setting.now in
    let text = c.args.text.now in
    let e = length text in
    let σ = stage_of c.loop-line.machine in
    let l = line_piece c.in-Some.line in
    let ls = lines_ahead c.next_line.new.self in
    let gave = c.in-Some.ensures.1 in
    let tie = subst (λ (x : List Piece). Tied c.loop-line.machine x) gave.next c.loop-line.invariant.1 in
    let here = turn_refused (ends_here σ l) (records_here σ l) (turn_renamed c.loop-line.invariant.0 (ap (to_come S e σ) gave.next ∙ to_come-line S e σ l ls)) c.close_before.ensures.list c.close_before.ensures.count in
    let up = c.in_err-note.ensures.cases in
    let full = turn_full (came S (next S σ l)) (behind_line S e ls) (stretches S e (cut ls).1) c.in-Err.fault here (c.in-Err.ensures.cases gave.fits tie) up.1 c.note.ensures.list c.note.ensures.count in
    let p = err_from_is_err_and c.from_residual-in_err-note.result c.from_residual-in_err-note.ensures.1 in
    let room = (g.S.Sink.holds c.args.sink.now).room in
    subst (λ r. Read (g.S.Sink.holds c.args.sink.now) (g.S.Sink.holds c.take_line.new.sink) (of_slots c.args.refused.now.list.now) (of_slots c.note.new.self.list.now) (decoded S text) (answer_of S room text) r c.note.new.self.found) (sym (p.1 ∙ ap Err (p.2 ∙ up.0))) (read_up_to S text c.in_ok-dated.ensures c.in-Err.fault full.0 up.1 full.1 full.2)

pub returns-in_err-note-clause-frame : goal.returns-in_err-note-clause-frame
returns-in_err-note-clause-frame g c = (
  g.S.Sink.ties.goes _ _ _ c.loop-line.invariant.2 c.take_line.ensures.frame,
  grown_ties.goes _ _ _ (grown_ties.goes _ _ _ c.loop-line.invariant.3 c.close_before.ensures.frame) c.note.ensures.frame,
)

pub returns-clause-frame : goal.returns-clause-frame
returns-clause-frame g c = (c.loop-line.invariant.2, grown_ties.goes _ _ _ c.loop-line.invariant.3 c.close_at.ensures.frame)
