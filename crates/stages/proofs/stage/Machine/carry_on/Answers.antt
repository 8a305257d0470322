use Rattle.std.proofs.Common.{◌+◌, ◌++◌, drop, sym, ap, ◌∙◌}
use Rattle.std.proofs.lemmas.Result.{err_from_is_err_and}
use Rattle.events.proofs.Passes.{comes_err}
use Rattle.items.specs.Steps.{items_ahead}
use Rattle.daylight.specs.Settings.{told}
use Rattle.messages.specs.Models.{common, reached}
use Rattle.reader.specs.Lines.{line_piece, lines_ahead}
use Rattle.refusals.specs.declared.MessageRefusal.TheVariants as why
use Rattle.terms.specs.Standing.{standing}
use Rattle.stages.specs.Machines.{header_of}
use Rattle.logging.specs.Own.{own_items}
use Rattle.stages.specs.Stages.{header, refuses}
use Rattle.stages.proofs.Moving.{line_refused, line_read, line_stopped, continues_unreadable, continues-not, continues_reads, header_more, tied_more}
use Rattle.stages.proofs.stage.Machine.carry_on.Goals as goal

pub returns-in_err-checked-clause-cases : goal.returns-in_err-checked-clause-cases
returns-in_err-checked-clause-cases g c =
    let S = told g.R.Rule.daylight c.args.setting.now in
    let p = err_from_is_err_and c.from_residual.result c.from_residual.ensures.1 in
    let o = c.args.held in
    λ rest e. comes_err _ _ _ _ p.1 p.2 (line_refused S _ (continues_unreadable (common o.message) (standing o.terms) (reached o.progress) o.number (header_of c.args.self.now o.number) c.args.form c.args.revised (line_piece c.args.line) c.in_err-checked.ensures.0 ∙ ap refuses (sym c.in_err-checked.ensures.1)) (why.Unreadable, ap (λ x. x.refusal) c.in_err-checked.ensures.1))

pub returns-in_default-clause-cases : goal.returns-in_default-clause-cases
returns-in_default-clause-cases g c =
    let S = told g.R.Rule.daylight c.args.setting.now in
    let o = c.args.held in
    λ rest e. line_refused S _ (continues-not (common o.message) (standing o.terms) (reached o.progress) o.number (header_of c.args.self.now o.number) c.args.form c.args.revised (line_piece c.args.line) c.in_ok-checked.ensures c.in_default.ensures ∙ ap refuses (sym c.at.ensures)) (why.Continuation, ap (λ x. x.refusal) c.at.ensures)

pub returns-in_err-progress-clause-cases : goal.returns-in_err-progress-clause-cases
returns-in_err-progress-clause-cases g c =
    let S = told g.R.Rule.daylight c.args.setting.now in
    let p = err_from_is_err_and c.from_residual-in_err-progress.result c.from_residual-in_err-progress.ensures.1 in
    let o = c.args.held in
    let items = items_ahead c.continued_items.result in
    let hs = header_of c.args.self.now o.number in
    λ rest e. comes_err _ _ _ _ p.1 p.2 (line_stopped S (common o.message) (reached o.progress) (own_items o.message.form items) (λ q. header (common o.message) (standing o.terms) q (o.number + 1) (hs ++ items))
    (continues_reads (common o.message) (standing o.terms) (reached o.progress) o.number hs c.args.form c.args.revised (line_piece c.args.line) items c.in_ok-checked.ensures c.in-Some.ensures.0 (c.continued_items.ensures c.requires))
    c.in_err-progress.ensures.cases)

pub returns-clause-cases : goal.returns-clause-cases
returns-clause-cases g c =
    let S = told g.R.Rule.daylight c.args.setting.now in
    let o = c.args.held in
    let l = line_piece c.args.line in
    let items = items_ahead c.continued_items.result in
    let at = c.continued_items.ensures c.requires in
    let hs = header_of c.args.self.now o.number in
    let ahead = lines_ahead c.args.self.now.lines in
    let q = reached c.in_ok-progress.progress in
    let en = c.in-Some.ensures.1 in
    λ rest e. line_read S (common o.message) (reached o.progress) q (own_items o.message.form items) (λ r. header (common o.message) (standing o.terms) r (o.number + 1) (hs ++ items)) _
    (continues_reads (common o.message) (standing o.terms) (reached o.progress) o.number hs c.args.form c.args.revised l items c.in_ok-checked.ensures c.in-Some.ensures.0 at)
    c.in_ok-progress.ensures.cases
    (ap (header (common o.message) (standing o.terms) q (o.number + 1)) (ap (λ x. hs ++ x) at ∙ sym (header_more (items_ahead c.args.self.now.opening) o.number ahead l rest e))
    ∙ ap (λ k. header (common o.message) (standing o.terms) q k (header_of c.args.self.now k)) (sym en))

pub returns-clause-tied : goal.returns-clause-tied
returns-clause-tied g c =
    let o = c.args.held in
    let l = line_piece c.args.line in
    let ahead = lines_ahead c.args.self.now.lines in
    let en = c.in-Some.ensures.1 in
    λ rest e. ap (λ k. drop k ahead) en ∙ tied_more o.number ahead l rest e
