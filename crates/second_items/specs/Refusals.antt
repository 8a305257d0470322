-- The number of each refusal.
use Rattle.std.specs.Prelude.{ℕ}
use Rattle.second_items.specs.declared.refusals.Refusal.{Refusal}
use Rattle.second_items.specs.declared.refusals.Refusal.TheVariants.{CurrentDate, Unreadable, Continuation, Station, Date, Setting, Code, NoCodeOrInterval, NoDuration, Value, TooLarge, NoTime, Unfinished, NoRoom}

abbrev pub number_of : Refusal → ℕ
number_of CurrentDate = 1
number_of Unreadable = 2
number_of Continuation = 3
number_of Station = 4
number_of Date = 5
number_of Setting = 6
number_of Code = 7
number_of NoCodeOrInterval = 8
number_of NoDuration = 9
number_of Value = 10
number_of TooLarge = 11
number_of NoTime = 12
number_of Unfinished = 13
number_of NoRoom = 14
