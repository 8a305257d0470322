use Rattle.std.proofs.Common.{sym, ap, ◌∙◌, ⊎_elim}
use Rattle.daylight.specs.Settings.{told}
use Rattle.messages.specs.Models.{common}
use Rattle.reader.specs.Lines.{line_piece}
use Rattle.refusals.specs.declared.MessageRefusal.TheVariants as why
use Rattle.terms.specs.Standing.{standing}
use Rattle.stages.specs.Machines.{header_of, stage_with}
use Rattle.stages.specs.Stages.{onto, refuses}
use Rattle.stages.proofs.Moving.{line_onto, line_refused, at_row, left_at_end, left_dotted}
use Rattle.stages.proofs.stage.Machine.step.Goals as goal

pub returns-in-Outside-clause-cases : goal.returns-in-Outside-clause-cases
returns-in-Outside-clause-cases g c =
    let S = told g.R.Rule.daylight c.args.setting.now in
    let m = c.args.self.now in
    let row = at_row S (line_piece c.args.line) (sym c.in-Continuation.is ∙ c.kind_of.ensures) (ap (λ s. stage_with s (header_of m)) c.in-Outside.is) in
    λ _. line_refused S _ (row ∙ ap refuses (sym c.at.ensures)) (why.Continuation, ap (λ x. x.refusal) c.at.ensures)

pub returns-in-Body-clause-cases : goal.returns-in-Body-clause-cases
returns-in-Body-clause-cases g c =
    let S = told g.R.Rule.daylight c.args.setting.now in
    let m = c.args.self.now in
    let row = at_row S (line_piece c.args.line) (sym c.in-Continuation.is ∙ c.kind_of.ensures) (ap (λ s. stage_with s (header_of m)) c.in-Body.is) in
    λ _. line_refused S _ (row ∙ ap refuses (sym c.at-in-Body.ensures)) (why.Unfinished, ap (λ x. x.refusal) c.at-in-Body.ensures)

pub returns-in-Body-clause-frame : goal.returns-in-Body-clause-frame
returns-in-Body-clause-frame g c = g.S.Sink.ties.stays _

pub returns-in-Header-stage-clause-cases : goal.returns-in-Header-stage-clause-cases
returns-in-Header-stage-clause-cases g c =
    let S = told g.R.Rule.daylight c.args.setting.now in
    let m = c.args.self.now in
    let of_kind = sym c.in-End.is ∙ c.kind_of.ensures in
    let ends = c.end.ensures.stage in
    λ _. ⊎_elim
    (λ h. left_at_end S _ _ (at_row S (line_piece c.args.line) of_kind (ap (λ s. stage_with s (header_of m)) h.1)) ends)
    (λ b. line_onto S _ (at_row S (line_piece c.args.line) of_kind (ap (λ s. stage_with s (header_of m)) b.1) ∙ ap onto (sym ends)))
    c.in-Header-stage.is

pub returns-in-Header-stage-2-clause-cases : goal.returns-in-Header-stage-2-clause-cases
returns-in-Header-stage-2-clause-cases g c =
    let S = told g.R.Rule.daylight c.args.setting.now in
    let m = c.args.self.now in
    let o = c.in-Header-stage-2.held in
    let row = at_row S (line_piece c.args.line) (sym c.in-Dotted.is ∙ c.kind_of.ensures) (ap (λ s. stage_with s (header_of m)) c.in-Header-stage-2.is) in
    λ _. left_dotted S _ (line_piece c.args.line) (common o.message) (header_of m o.number) (standing o.terms) _ c.end_header.result row c.end_header.ensures.cases

pub returns-in-Body-stage-clause-cases : goal.returns-in-Body-stage-clause-cases
returns-in-Body-stage-clause-cases g c =
    let S = told g.R.Rule.daylight c.args.setting.now in
    let m = c.args.self.now in
    let row = at_row S (line_piece c.args.line) (sym c.in-Dotted.is ∙ c.kind_of.ensures) (ap (λ s. stage_with s (header_of m)) c.in-Body-stage.is) in
    λ _. line_refused S _ (row ∙ ap refuses (sym c.at-in-Body-stage.ensures)) (why.Unfinished, ap (λ x. x.refusal) c.at-in-Body-stage.ensures)
