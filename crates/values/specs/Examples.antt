-- Examples of values and what they say, with the qualifier Z where none is written.
use Rattle.std.specs.Prelude.{◌≡◌, ℤ, pos, negsuc, Some, None, Ok, Err, codes, Result}
use Rattle.quantity.specs.declared.units.Units.TheVariants.{English, Si}
use Rattle.values.specs.declared.reading.ValueFault.{ValueFault}
use Rattle.values.specs.declared.reading.ValueFault.TheVariants.{Malformed, TooLarge}
use Rattle.values.specs.Reading.{Stated, read_value}

abbrev pub amount : ℤ → Result Stated ValueFault
amount z = Ok (Some z, 90)

abbrev pub missing : Result Stated ValueFault
missing = Ok (None, 90)

pub record Examples : Type 0 where
  -- 1.2573 km is 0.7813 miles, and so below zero
  pub km : read_value (codes "XVIRZZZ") Si (codes "1.2573") ≡ amount (pos 7813)
  pub km_below : read_value (codes "XVIRZZZ") Si (codes "-1.2573") ≡ amount (negsuc 7812)
  -- both are -9999, one before conversion and one after it
  pub absent_before : read_value (codes "TAIRZZZ") Si (codes "-9999") ≡ missing
  pub absent_after : read_value (codes "TAIRZZZ") Si (codes "-5572.7778") ≡ missing
  pub meters : read_value (codes "HGIRZZZ") Si (codes "2") ≡ amount (pos 65617)
  -- 30480000 m are 100000000 feet, the first amount that is too large
  pub largest : read_value (codes "HGIRZZZ") Si (codes "30479999.9999") ≡ amount (pos 999999999997)
  pub too_large : read_value (codes "HGIRZZZ") Si (codes "30480000") ≡ Err TooLarge
  -- the smallest amount, and the first one that is too far below zero, -10^12
  pub smallest : read_value (codes "HGIRZZZ") English (codes "-99999999.9999") ≡ amount (negsuc 999999999998)
  pub too_low : read_value (codes "HGIRZZZ") Si (codes "-30480000") ≡ Err TooLarge
  pub trace : read_value (codes "PPDRZZZ") Si (codes "T") ≡ amount (pos 10)
  pub no_trace : read_value (codes "HGIRZZZ") English (codes "T") ≡ Err Malformed
  pub estimated : read_value (codes "HGIRZZZ") English (codes "12.3456E") ≡ Ok (Some (pos 123456), 69)
