use Rattle.std.proofs.Common.{ap, ◌∙◌}
use Rattle.items.specs.Words.{first_word, word_parts}
use Rattle.openings.proofs.Opens.{zone_none, zone_other, zone_is}
use Rattle.openings.proofs.fields.Fields.zone.Goals as goal

pub returns-in_default-clause-value : goal.returns-in_default-clause-value
returns-in_default-clause-value c = zone_none c.args.self.now.line.part.now c.args.self.now.from (c.in_default.ensures.value ∙ ap first_word c.split_at.ensures.back)

pub returns-in-Some-zone_of-clause-value : goal.returns-in-Some-zone_of-clause-value
returns-in-Some-zone_of-clause-value c = zone_is c.args.self.now.line.part.now c.args.self.now.from (word_parts c.in-Some.word) c.in-Some-zone_of.zone (c.in-Some.ensures.value ∙ ap first_word c.split_at.ensures.back) c.in-Some-zone_of.ensures

pub returns-in_default-zone_of-clause-value : goal.returns-in_default-zone_of-clause-value
returns-in_default-zone_of-clause-value c = zone_other c.args.self.now.line.part.now c.args.self.now.from (word_parts c.in-Some.word) (c.in-Some.ensures.value ∙ ap first_word c.split_at.ensures.back) c.in_default-zone_of.ensures
