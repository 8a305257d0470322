-- How an amount is written in a message: perhaps a sign, up to eight digits, perhaps a point and up to four decimals, with at least one digit.
use Rattle.std.specs.Prelude.{ℕ, ◌+◌, ◌-◌, ◌*◌, ◌^◌, Bool, true, cond, ◌&&◌, List, [], ◌∷◌, length, ℤ, pos, neg_ℤ, Some, None, Option, ◌==◌, nat_le, nat_lt}
use Rattle.std.specs.Option.{option_map}
use Rattle.text.specs.Signs.{digit}

abbrev pub all_digits : List ℕ → Bool
all_digits [] = true
all_digits (c ∷ cs) = digit c && all_digits cs

-- the number that digits say, behind digits that say n
abbrev pub said : ℕ → List ℕ → ℕ
said n [] = n
said n (c ∷ cs) = said (n * 10 + (c - 48)) cs

-- the number of at most so many digits
abbrev pub numeral : ℕ → List ℕ → Option ℕ
numeral most cs = cond (all_digits cs && nat_le (length cs) most) (Some (said 0 cs)) None

-- what stands before the first point
abbrev pub before_point : List ℕ → List ℕ
before_point [] = []
before_point (c ∷ cs) = cond (c == 46) [] (c ∷ before_point cs)

-- what stands behind the first point
abbrev pub behind_point : List ℕ → List ℕ
behind_point [] = []
behind_point (c ∷ cs) = cond (c == 46) cs (behind_point cs)

-- a whole number and what k decimals say, in ten-thousandths
abbrev pub ten_thousandths : ℕ → Option ℕ → Option ℕ → Option ℕ
ten_thousandths k None decimals = None
ten_thousandths k (Some whole) None = None
ten_thousandths k (Some whole) (Some decimals) = Some (whole * 10000 + decimals * 10 ^ (4 - k))

-- the size of an amount, by the digits before and behind its point
abbrev pub size_from : List ℕ → List ℕ → Option ℕ
size_from whole decimals = cond (nat_lt 0 (length whole + length decimals)) (ten_thousandths (length decimals) (numeral 8 whole) (numeral 4 decimals)) None

abbrev pub size_of : List ℕ → Option ℕ
size_of cs = size_from (before_point cs) (behind_point cs)

abbrev pub negated : ℕ → ℤ
negated n = neg_ℤ (pos n)

-- the amount, with its sign
abbrev pub amount_of : List ℕ → Option ℤ
amount_of [] = None
amount_of (c ∷ cs) = cond (c == 45) (option_map negated (size_of cs)) (cond (c == 43) (option_map pos (size_of cs)) (option_map pos (size_of (c ∷ cs))))
