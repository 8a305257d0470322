-- What a decode comes to.
use Rattle.std.specs.Prelude.{ℕ, ◌-◌, ◌^◌, min, cond, List, [], ◌∷◌, length, take}
use Rattle.calendar.specs.Dates.{message_day}
use Rattle.reader.specs.Kinds.{kind_of}
use Rattle.reader.specs.Lines.{Piece}
use Rattle.refusals.specs.declared.Refusal.TheVariants.{CurrentDate}
use Rattle.events.specs.Events.{Event, refused, records, verdict}
use Rattle.daylight.specs.Settings.{Setting}
use Rattle.stages.specs.Stages.{Stage, closing}
use Rattle.shef.specs.Texts.{is_opening, events}
use Rattle.shef.specs.declared.decode.Ending.{Ending}
use Rattle.shef.specs.declared.decode.Ending.TheVariants.{Whole, NoDay, NoRoom}

-- the events of a text; where the current date is no day of 1900 to 2099 nothing is read, and that is refused
abbrev pub decoded : Setting → List ℕ → List Event
decoded S text = cond (message_day S.today) (events S text) (refused CurrentDate 0 ∷ [])

-- 1 for a refused current date, 14 where the room does not suffice, else 0
abbrev pub answer_of : Setting → ℕ → List ℕ → ℕ
answer_of S room text = cond (message_day S.today) (verdict room (events S text)) 1

-- the number by which users know how a decode ended
abbrev pub ending_number : Ending → ℕ
ending_number Whole = 0
ending_number NoDay = 1
ending_number NoRoom = 14

-- the records that go in
abbrev pub delivered : ℕ → List Event → ℕ
delivered room es = length (take room (records es))

-- faults are counted up to the largest number of 64 bits
abbrev pub counted : ℕ → ℕ
counted n = min n (2 ^ 64 - 1)

-- what ends where a line begins: an opening ends a table that is still open
abbrev pub ends_here : Stage → Piece → List Event
ends_here σ l = cond (is_opening (kind_of l.1)) (closing σ l.0) []
