use Rattle.reader.proofs.kind.kinds_are_told.Goals as goal
use Rattle.reader.proofs.Numbers.{numbers_told}
use Rattle.reader.proofs.Told.{kinds_told, letters_told}

pub returns : goal.returns
returns c = record { kinds = kinds_told; letters = letters_told; numbers = numbers_told }
