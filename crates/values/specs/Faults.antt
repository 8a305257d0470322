-- How a value's fault is told.
use Rattle.std.specs.Prelude.{ℕ, List, codes}
use Rattle.values.specs.declared.reading.ValueFault.{ValueFault}
use Rattle.values.specs.declared.reading.ValueFault.TheVariants.{Malformed, TooLarge}

abbrev pub told : ValueFault → List ℕ
told Malformed = codes "malformed"
told TooLarge = codes "too large"
