-- Refusals of values, and what users read of a fault.
use Rattle.std.specs.Prelude.{ℕ, List, ◌++◌, codes}
use Rattle.std.specs.Fmt.{decimal}
use Rattle.values.specs.declared.reading.ValueFault.{ValueFault}
use Rattle.values.specs.declared.reading.ValueFault.TheVariants.{Malformed}
use Rattle.values.specs.declared.reading.ValueFault.TheVariants as fault
use Rattle.refusals.specs.declared.Fault.{Fault}
use Rattle.refusals.specs.declared.ItemRefusal.{ItemRefusal}
use Rattle.refusals.specs.declared.ItemRefusal.TheVariants.{Value, TooLarge}
use Rattle.refusals.specs.Numbers.{number_of}

-- a value that breaks its rule is 10, one that is too large 11
abbrev pub refusal_of : ValueFault → ItemRefusal
refusal_of Malformed = Value
refusal_of fault.TooLarge = TooLarge

-- the number, a blank and the place
abbrev pub fault_text : Fault → List ℕ
fault_text f = decimal (number_of f.refusal) ++ codes " " ++ decimal f.place
