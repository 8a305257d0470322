-- The number that a text begins with, and the century of a year of two digits.
use Rattle.std.specs.Prelude.{ℕ, ◌+◌, ◌-◌, ◌*◌, Bool, cond, ◌&&◌, nat_le, nat_lt, List, [], ◌∷◌, Option, None, Some}
use Rattle.second_time.specs.declared.days.Day.{Day}

-- 1950 + yy lies halfway between 19yy and 20yy: a current year past it is nearer to the later one
abbrev pub century_of : Day → ℕ → ℕ
century_of today year = cond (nat_lt (1950 + year) today.year) 20 19

abbrev pub is_digit : ℕ → Bool
is_digit b = nat_le 48 b && nat_le b 57

-- two digits (from 48 on) that a text begins with
abbrev pub two_digits : List ℕ → Option ℕ
two_digits [] = None
two_digits (a ∷ []) = None
two_digits (a ∷ b ∷ rest) = cond (is_digit a && is_digit b) (Some (10 * (a - 48) + (b - 48))) None
