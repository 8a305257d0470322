-- Amounts are whole numbers of ten-thousandths.
use Rattle.std.specs.Prelude.{◌^◌, Bool, false, not, ◌&&◌, ℤ, pos, negsuc, ◌==◌, nat_lt, unsigned_abs}

-- the amount that stands for a missing value, -9999.0000
abbrev pub absent : ℤ
absent = negsuc 99989999

abbrev pub is_absent : ℤ → Bool
is_absent (pos n) = false
is_absent (negsuc n) = n == 99989999

-- an amount that a record can hold
abbrev pub holdable : ℤ → Bool
holdable z = nat_lt (unsigned_abs z) (10 ^ 12) && not (is_absent z)
