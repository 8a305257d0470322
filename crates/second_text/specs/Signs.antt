-- Which words are names, and which lines are not fit to be read.
use Rattle.std.specs.Prelude.{ℕ, Bool, ◌&&◌, ◌||◌, not, List, length, nat_le, nat_lt}
use Rattle.std.specs.List.{list_all}

-- A to Z, or 0 to 9
abbrev pub is_sign : ℕ → Bool
is_sign b = nat_le 65 b && nat_le b 90 || nat_le 48 b && nat_le b 57

-- 3 to 8 of these
abbrev pub is_name : List ℕ → Bool
is_name word = nat_le 3 (length word) && nat_le (length word) 8 && list_all is_sign word

-- from the blank to the tilde
abbrev pub prints : ℕ → Bool
prints b = nat_le 32 b && nat_le b 126

abbrev pub is_unfit : List ℕ → Bool
is_unfit line = nat_lt 1000 (length line) || not (list_all prints line)
