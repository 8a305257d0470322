-- How dates are printed.
use Rattle.std.specs.Prelude.{ℕ, ◌-◌, List, ◌∷◌, ◌++◌, length, replicate}
use Rattle.std.specs.Fmt.{decimal}
use Rattle.calendar.specs.declared.date.Date.{Date}

-- a number in decimal, with zeros (48) in front up to a width
abbrev pub zero_padded : ℕ → ℕ → List ℕ
zero_padded width n = replicate (width - length (decimal n)) 48 ++ decimal n

-- four digits of the year, two of the month and two of the day, with a - (45) between them
abbrev pub date_text : Date → List ℕ
date_text d = zero_padded 4 d.year ++ (45 ∷ zero_padded 2 d.month ++ (45 ∷ zero_padded 2 d.day))
