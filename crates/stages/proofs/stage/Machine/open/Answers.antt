use Rattle.std.proofs.Common.{◌+◌, sym, ap, ◌∙◌, arith}
use Rattle.std.proofs.lemmas.Result.{err_from_is_err_and}
use Rattle.events.proofs.Passes.{comes_err}
use Rattle.items.specs.Items.{message_items}
use Rattle.items.specs.Steps.{items_ahead}
use Rattle.daylight.specs.Settings.{told}
use Rattle.messages.specs.Models.{common, reached}
use Rattle.reader.specs.Lines.{line_piece, lines_ahead}
use Rattle.refusals.specs.declared.MessageRefusal.TheVariants as why
use Rattle.terms.specs.Standing.{standing}
use Rattle.openings.specs.Found.{opened_as}
use Rattle.logging.specs.Own.{own_items}
use Rattle.stages.specs.Stages.{header, refuses}
use Rattle.stages.proofs.Moving.{line_refused, line_read, line_stopped, begins_unreadable, begins_refused, begins_reads, header_none}
use Rattle.openings.proofs.Saying.{opened_says}
use Rattle.stages.proofs.stage.Machine.open.Goals as goal

pub returns-in_err-checked-clause-cases : goal.returns-in_err-checked-clause-cases
returns-in_err-checked-clause-cases g c =
    let S = told g.R.Rule.daylight c.args.setting.now in
    let p = err_from_is_err_and c.from_residual.result c.from_residual.ensures.1 in
    comes_err _ _ _ _ p.1 p.2 (line_refused S _ (begins_unreadable S c.args.form c.args.revised (line_piece c.args.line) c.in_err-checked.ensures.0 ∙ ap refuses (sym c.in_err-checked.ensures.1)) (why.Unreadable, ap (λ x. x.refusal) c.in_err-checked.ensures.1))

pub returns-in_err-opening-clause-cases : goal.returns-in_err-opening-clause-cases
returns-in_err-opening-clause-cases g c =
    let S = told g.R.Rule.daylight c.args.setting.now in
    let p = err_from_is_err_and c.from_residual-in_err-opening.result c.from_residual-in_err-opening.ensures.1 in
    let is = c.in_err-opening.ensures.value c.requires in
    comes_err _ _ _ _ p.1 p.2 (line_refused S _ (begins_refused S c.args.form c.args.revised (line_piece c.args.line) _ c.in_ok-checked.ensures is) (opened_says c.args.setting.now.today c.args.form c.args.revised (line_piece c.args.line) _ is))

pub returns-in_err-progress-clause-cases : goal.returns-in_err-progress-clause-cases
returns-in_err-progress-clause-cases g c =
    let S = told g.R.Rule.daylight c.args.setting.now in
    let p = err_from_is_err_and c.from_residual-in_err-progress.result c.from_residual-in_err-progress.ensures.1 in
    let o = c.in_ok-opening.opening in
    let l = line_piece c.args.line in
    let items = items_ahead c.of_line-items.result in
    let at = c.of_line-items.ensures.placed (omega (arith, c.split_at.ensures.back_len, c.requires)) ∙ ap (message_items (c.args.line.place + o.start)) c.split_at.ensures.back in
    comes_err _ _ _ _ p.1 p.2 (line_stopped S (common o.message) (reached c.new.result) (own_items o.message.form items) (λ q. header (common o.message) (standing o.terms) q 0 items)
    (begins_reads S c.args.form c.args.revised l (opened_as o) items (reached c.new.result) o.message.form c.in_ok-checked.ensures (c.in_ok-opening.ensures.value c.requires) at c.new.ensures c.in_ok-opening.ensures.valid.1)
    c.in_err-progress.ensures.cases)

pub returns-clause-cases : goal.returns-clause-cases
returns-clause-cases g c =
    let S = told g.R.Rule.daylight c.args.setting.now in
    let o = c.in_ok-opening.opening in
    let l = line_piece c.args.line in
    let items = items_ahead c.of_line-items.result in
    let at = c.of_line-items.ensures.placed (omega (arith, c.split_at.ensures.back_len, c.requires)) ∙ ap (message_items (c.args.line.place + o.start)) c.split_at.ensures.back in
    let q = reached c.in_ok-progress.progress in
    line_read S (common o.message) (reached c.new.result) q (own_items o.message.form items) (λ r. header (common o.message) (standing o.terms) r 0 items) _
    (begins_reads S c.args.form c.args.revised l (opened_as o) items (reached c.new.result) o.message.form c.in_ok-checked.ensures (c.in_ok-opening.ensures.value c.requires) at c.new.ensures c.in_ok-opening.ensures.valid.1)
    c.in_ok-progress.ensures.cases
    (ap (header (common o.message) (standing o.terms) q 0) (sym (header_none items (lines_ahead c.args.behind))))
