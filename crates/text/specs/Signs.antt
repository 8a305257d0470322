-- Signs of text by their codes: digits are 48 to 57, capitals 65 to 90.
use Rattle.std.specs.Prelude.{ℕ, ◌+◌, ◌-◌, ◌*◌, Bool, cond, ◌&&◌, ◌||◌, Some, None, Option, nat_le}

abbrev pub digit : ℕ → Bool
digit b = nat_le 48 b && nat_le b 57

abbrev pub capital : ℕ → Bool
capital b = nat_le 65 b && nat_le b 90

-- a capital or a digit
abbrev pub sign : ℕ → Bool
sign b = capital b || digit b

-- the number that two digits write
abbrev pub pair_of : ℕ → ℕ → Option ℕ
pair_of a b = cond (digit a && digit b) (Some ((a - 48) * 10 + (b - 48))) None
