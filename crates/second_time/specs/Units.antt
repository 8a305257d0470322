-- The letters that units of time are named by.
use Rattle.std.specs.Prelude.{ℕ}
use Rattle.second_time.specs.declared.moves.Unit.{Unit}
use Rattle.second_time.specs.declared.moves.Unit.TheVariants.{Second, Minute, Hour, Day, Month, Year, MonthEnd}

abbrev pub letter_of : Unit → ℕ
-- S
letter_of Second = 83
-- N
letter_of Minute = 78
-- H
letter_of Hour = 72
-- D
letter_of Day = 68
-- M
letter_of Month = 77
-- Y
letter_of Year = 89
-- E
letter_of MonthEnd = 69
