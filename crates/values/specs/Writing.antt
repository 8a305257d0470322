-- How a value is written: fourteen columns, four decimals, no needless leading zeros, standing to the right; a missing one is -9999.0000.
use Rattle.std.specs.Prelude.{ℕ, zero, suc, ◌+◌, ◌-◌, ◌/◌, ◌%◌, cond, List, [], ◌∷◌, ◌++◌, length, replicate, ℤ, pos, negsuc, Some, None, Option, ◌==◌, nat_lt}
use Rattle.quantity.specs.Amounts.{absent}

-- exactly k digits of n
abbrev pub digits : ℕ → ℕ → List ℕ
digits zero n = []
digits (suc k) n = digits k (n / 10) ++ ((48 + n % 10) ∷ [])

-- as few digits as n takes, for n below 10 ^ k
abbrev pub plain : ℕ → ℕ → List ℕ
plain zero n = []
plain (suc k) n = cond (nat_lt n 10) ((48 + n) ∷ []) (plain k (n / 10) ++ ((48 + n % 10) ∷ []))

-- a size of ten-thousandths, with its point
abbrev pub size_text : ℕ → List ℕ
size_text n = plain 8 (n / 10000) ++ (46 ∷ digits 4 (n % 10000))

abbrev pub figure : ℤ → List ℕ
figure (pos n) = size_text n
figure (negsuc n) = 45 ∷ size_text (suc n)

abbrev pub pad_left : ℕ → List ℕ → List ℕ
pad_left w xs = replicate (w - length xs) 32 ++ xs

-- the figure of a value
abbrev pub figure_of : Option ℤ → List ℕ
figure_of None = figure absent
figure_of (Some z) = figure z

unfoldable pub written : Option ℤ → List ℕ
written v = pad_left 14 (figure_of v)

-- without the blanks in front
abbrev pub trim_start : List ℕ → List ℕ
trim_start [] = []
trim_start (c ∷ cs) = cond (c == 32) (trim_start cs) (c ∷ cs)
