use Rattle.std.proofs.Common.{ℕ, None, Err, refl, ap, ◌∙◌}
use Rattle.std.proofs.lemmas.Result.{err_from_is_err_and}
use Rattle.std.specs.Option.{ok_or}
use Rattle.messages.specs.Ways.{map_ok}
use Rattle.reader.specs.Lines.{line_piece}
use Rattle.openings.proofs.Opens.{err-holds, field-missing, field-read, ok-holds, ok_mapped}
use Rattle.openings.proofs.fields.Fields.field.Goals as goal

pub returns-in_err-found-clause-value : goal.returns-in_err-found-clause-value
returns-in_err-found-clause-value g c =
    let p = err_from_is_err_and c.from_residual.result c.from_residual.ensures.1 in (
      None,
      (
        ap (map_ok {A = g.row.T.Denot} {B = g.row.T.Denot × ℕ} (λ x. (x, c.word.new.self.from))) (p.1 ∙ ap Err p.2) ∙ field-missing c.args.refusal None (line_piece c.args.self.now.line) c.args.self.now.from _ c.in_err-found.ensures.value,
        err-holds _ _ _ c.in_err-found.ensures.value,
      ),
    )

pub returns-clause-value : goal.returns-clause-value
returns-clause-value g c =
    let from = c.word.new.self.from in
    let read = c.read.result in (
      read,
      (
        ap (map_ok {A = g.row.T.Denot} {B = g.row.T.Denot × ℕ} (λ x. (x, from))) (c.ok_or.ensures.value ∙ ap (ok_or read) c.at.ensures) ∙ ok_mapped (λ x. (x, from)) read _ ∙ field-read c.args.refusal read (line_piece c.args.self.now.line) c.args.self.now.from _ c.in_ok-found.ensures.value,
        ok-holds _ _ _ c.in_ok-found.ensures.value (c.in_ok-found.found.word, (c.read.ensures, refl)),
      ),
    )
