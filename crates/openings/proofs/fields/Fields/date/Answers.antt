use Rattle.std.proofs.Common.{◌∙◌, rules}
use Rattle.calendar.specs.Messages.{message_date}
use Rattle.reader.specs.Lines.{line_piece}
use Rattle.refusals.specs.declared.MessageRefusal.TheVariants as why
use Rattle.std.proofs.lemmas.Iterator.Adapters.{option_map_id}
use Rattle.std.proofs.lemmas.Result.{IfOk-weaker}
use Rattle.openings.specs.Openings.{word_at}
use Rattle.openings.proofs.Opens.{field_is}
use Rattle.openings.proofs.fields.Fields.date.Goals as goal

pub returns-clause-value : goal.returns-clause-value
returns-clause-value c =
    let read = c.field.ensures.value in
    let l = line_piece c.args.self.now.line in
    field_is (λ x. x) why.Date read.0 (λ w. message_date w c.args.today) l c.args.self.now.from _ c.field.result read.1.0 (IfOk-weaker (word_at why.Date l c.args.self.now.from) _ _ (λ w h. option_map_id read.0 ∙ search rules) read.1.1)
