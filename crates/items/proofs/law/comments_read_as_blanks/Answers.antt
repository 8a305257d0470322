use Rattle.items.proofs.Blanked.{comments_blanked, items_blanked}
use Rattle.items.proofs.law.comments_read_as_blanks.Goals as goal

pub returns-clause-blanked : goal.returns-clause-blanked
returns-clause-blanked c = comments_blanked

pub returns-clause-items : goal.returns-clause-items
returns-clause-items c = items_blanked
