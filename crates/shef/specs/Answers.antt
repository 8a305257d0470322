-- What a reading of a text leaves and answers.
use Rattle.std.specs.Prelude.{◌≡◌, ℕ, ◌+◌, Bool, true, false, cond, List, [], ◌∷◌, length, Ok, Err, Result}
use Rattle.record.specs.Entries.{Entry}
use Rattle.refusals.specs.declared.Fault.{Fault}
use Rattle.refusals.specs.declared.Refusal.{Refusal}
use Rattle.refusals.specs.declared.Refusal.TheVariants as refusal
use Rattle.sink.specs.Logs.{Log, put_all}
use Rattle.events.specs.Events.{Event, records, met}
use Rattle.shef.specs.Decodes.{counted, ending_number}
use Rattle.shef.specs.declared.decode.Ending.{Ending}
use Rattle.shef.specs.declared.decode.Ending.TheVariants.{Whole, NoDay, NoRoom}

-- the fault that ended a reading, if one did
abbrev pub last_of : Result (Unit {0}) Fault → List Fault
last_of (Ok u) = []
last_of (Err f) = f ∷ []

-- of the faults that a line meets, that a record finds no room ends the reading, and any other no more than its message; that of the current date is met before the first line
abbrev pub ends_reading : Refusal → Bool
ends_reading refusal.CurrentDate = false
ends_reading (refusal.Message r) = false
ends_reading (refusal.Item r) = false
ends_reading refusal.NoRoom = true

-- what goes to the list at a fault, before reading goes on
abbrev pub noted : Fault → List Fault
noted f = cond (ends_reading f.refusal) [] (f ∷ [])

-- which end it made: of the faults that end a reading one is that of the current date, and any other that of the room
abbrev pub ended_by : Refusal → Ending
ended_by refusal.CurrentDate = NoDay
ended_by (refusal.Message r) = NoRoom
ended_by (refusal.Item r) = NoRoom
ended_by refusal.NoRoom = NoRoom

abbrev pub ending_of : Result (Unit {0}) Fault → Ending
ending_of (Ok u) = Whole
ending_of (Err f) = ended_by f.refusal

-- a reading whose events are es, and its answer n: the fault that ended it is handed on, and neither listed nor counted yet
pub record Read (l m : Log Entry) (f g : Log Fault) (es : List Event) (n : ℕ) (r : Result (Unit {0}) Fault) (found : ℕ) : Type 0 where
  pub sink : m ≡ put_all l (records es)
  pub list : put_all g (last_of r) ≡ put_all f (met l.room es)
  pub number : ending_number (ending_of r) ≡ n
  pub all : counted (found + length (last_of r)) ≡ counted (length (met l.room es))
