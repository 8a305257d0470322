-- The English value of one in SI units.
use Rattle.std.specs.Prelude.{ℕ, ◌+◌, ◌*◌, ◌/◌, ◌<◌, ⊤, ℤ, pos, neg_ℤ, ◌+ℤ◌, ◌*ℤ◌, nat_abs, int_lt, if◌then◌else◌, FitsSigned}
use Rattle.std.specs.Int.{w64}
use Rattle.std.specs.Ordering.{int_eq}
use Rattle.second_value.specs.declared.elements.Conversion.{Conversion}
use Rattle.second_value.specs.declared.values.Amount.{Amount}
use Rattle.second_value.specs.declared.values.Amount.TheVariants.{Missing, Trace, Number}

-- what is added to a number of ten-thousandths times up, before it is divided by down
abbrev pub added : Conversion → ℤ
added c = c.plus *ℤ pos 10000 *ℤ pos c.down

-- its steps fit
abbrev pub IsAddable : Conversion → Type 0
IsAddable c = FitsSigned w64 (pos c.down) × FitsSigned w64 (c.plus *ℤ pos 10000) × FitsSigned w64 (added c)

-- down times the English number
abbrev pub exact : Conversion → ℤ → ℤ
exact c n = n *ℤ c.up +ℤ added c

-- the size of the English number, halves rounded away from zero
abbrev pub size : Conversion → ℤ → ℕ
size c n = (nat_abs (exact c n) * 2 + c.down) / (c.down * 2)

abbrev pub english : Conversion → ℤ → ℤ
english c n = if int_lt (exact c n) (pos 0) then neg_ℤ (pos (size c n)) else pos (size c n)

abbrev pub amount_of : ℤ → Amount
amount_of n = if int_eq n (neg_ℤ (pos 99990000)) then Missing else Number n

-- a missing value and a trace stay what they are, and a number of -9999 is a missing value
abbrev pub converted : Conversion → Amount → Amount
converted c Missing = Missing
converted c Trace = Trace
converted c (Number n) = amount_of (english c n)

-- whether the English number has 8 digits at most before its point, and its steps fit
abbrev pub IsConvertible : Conversion → Amount → Type 0
IsConvertible c Missing = ⊤
IsConvertible c Trace = ⊤
IsConvertible c (Number n) =
    (0 < c.down)
    × IsAddable c
    × FitsSigned w64 (n *ℤ c.up)
    × FitsSigned w64 (exact c n)
    × (size c n < 1000000000000)
