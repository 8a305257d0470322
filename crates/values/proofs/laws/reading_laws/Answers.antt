use Rattle.values.proofs.Parts.{says_what_it_writes}
use Rattle.values.proofs.Said.{reads_what_is_said}
use Rattle.values.proofs.laws.reading_laws.Goals as goal

pub returns : goal.returns
returns c = record { amounts = says_what_it_writes; values = reads_what_is_said }
