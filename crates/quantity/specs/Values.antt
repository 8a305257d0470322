-- The value of a reading, as an amount or none.
use Rattle.std.specs.Prelude.{ℤ, Some, None, Option}
use Rattle.quantity.specs.Amounts.{absent}
use Rattle.quantity.specs.declared.value.Value.{Value}
use Rattle.quantity.specs.declared.value.Value.TheVariants.{Missing, Known}

abbrev pub value_of : Value → Option ℤ
value_of Missing = None
value_of (Known a) = Some a.tenthousandths

-- the amount that stands for a value
abbrev pub stands_for : Option ℤ → ℤ
stands_for None = absent
stands_for (Some z) = z
