use Rattle.values.proofs.Again.{reads_back, reads_alone}
use Rattle.values.proofs.AnyElement.{reads_english, reads_back_any, reads_alone_any}
use Rattle.values.proofs.Back as back
use Rattle.values.proofs.Shown.{shows_amounts, shows_missing}
use Rattle.values.proofs.laws.writing_laws.Goals as goal

pub returns : goal.returns
returns c = record { back = reads_back; alone = reads_alone; english = reads_english; back_any = reads_back_any; alone_any = reads_alone_any; apart = back.apart; wide = back.wide; shows = shows_amounts; missing = shows_missing }
