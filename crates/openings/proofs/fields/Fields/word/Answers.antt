use Rattle.std.proofs.Common.{Err, ap, ◌∙◌}
use Rattle.items.specs.Words.{first_word, word_parts}
use Rattle.reader.specs.Lines.{line_piece}
use Rattle.openings.proofs.Opens.{word_none, word_some}
use Rattle.openings.proofs.fields.Fields.word.Goals as goal

pub returns-in_default-clause-value : goal.returns-in_default-clause-value
returns-in_default-clause-value c = ap Err c.at.ensures ∙ word_none c.args.missing (line_piece c.args.self.now.line) c.args.self.now.from (c.in_default.ensures.value ∙ ap first_word c.split_at.ensures.back)

pub returns-clause-value : goal.returns-clause-value
returns-clause-value c = word_some c.args.missing (line_piece c.args.self.now.line) c.args.self.now.from (word_parts c.in-Some.word) (c.in-Some.ensures.value ∙ ap first_word c.split_at.ensures.back)
