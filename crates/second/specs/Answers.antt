-- The number of each answer.
use Rattle.std.specs.Prelude.{ℕ}
use Rattle.second.specs.declared.messages.Answer.{Answer}
use Rattle.second.specs.declared.messages.Answer.TheVariants.{Ended, CurrentDate, NoRoom}

abbrev pub number_of : Answer → ℕ
number_of Ended = 0
-- an answer that a refusal gives has its number
number_of CurrentDate = 1
number_of NoRoom = 14
