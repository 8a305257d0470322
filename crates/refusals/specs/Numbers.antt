-- The number and the layer of each refusal of a decode.
use Rattle.std.specs.Prelude.{ℕ}
use Rattle.refusals.specs.declared.Refusal.{Refusal}
use Rattle.refusals.specs.declared.Refusal.TheVariants.{CurrentDate, NoRoom}
use Rattle.refusals.specs.declared.Refusal.TheVariants as refusal
use Rattle.refusals.specs.declared.MessageRefusal.TheVariants.{Unreadable, Continuation, Station, Date, Unfinished}
use Rattle.refusals.specs.declared.ItemRefusal.TheVariants.{DItem, Code, NoCodeOrInterval, NoDuration, Value, TooLarge, NoTime}
use Rattle.refusals.specs.declared.Layer.{Layer}
use Rattle.refusals.specs.declared.Layer.TheVariants as layer

abbrev pub number_of : Refusal → ℕ
-- the current date is no day of 1900 to 2099
number_of CurrentDate = 1
-- a line is too long or has a byte outside 32 to 126
number_of (refusal.Message Unreadable) = 2
-- a continuation has nothing to continue or breaks its rule
number_of (refusal.Message Continuation) = 3
-- a station or source is missing or malformed
number_of (refusal.Message Station) = 4
-- a date is missing, malformed or on no day
number_of (refusal.Message Date) = 5
-- a D item breaks its rule
number_of (refusal.Item DItem) = 6
-- a code breaks its rule
number_of (refusal.Item Code) = 7
-- a value has no code left for it, or as a step no interval
number_of (refusal.Item NoCodeOrInterval) = 8
-- a value's code has duration V and no DV is in force
number_of (refusal.Item NoDuration) = 9
-- a value is absent or breaks its rule
number_of (refusal.Item Value) = 10
-- a converted value is too large
number_of (refusal.Item TooLarge) = 11
-- the observation time is no time, or outside 1900 to 2099 in UTC
number_of (refusal.Item NoTime) = 12
-- a .B message is not finished
number_of (refusal.Message Unfinished) = 13
-- the sink has no room
number_of NoRoom = 14

abbrev pub layer_of : Refusal → Layer
layer_of CurrentDate = layer.Call
layer_of (refusal.Message r) = layer.Message
layer_of (refusal.Item r) = layer.Item
layer_of NoRoom = layer.Sink
