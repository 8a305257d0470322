-- Numbers as a hole with a width prints them.
use Rattle.std.proofs.Common.{◌≡◌, ℕ, ◌^◌, ◌-◌, List, [], length, ◌++◌, replicate, append-nil, arith}
use Rattle.std.specs.Fmt.{decimal, char_count, format_spec, padded_integral, styled_decimal}
use Rattle.calendar.specs.Texts.{zero_padded}

-- no sign and no prefix take room
bare : (room : ℕ) (digits : List ℕ) → replicate (room - 0 - 0) 48 ++ (digits ++ []) ≡ replicate room 48 ++ digits
bare room digits = let none : room - 0 - 0 ≡ room = omega arith in rw (none, append-nil digits)

pub padded_to_4 : (n : ℕ) → styled_decimal (format_spec 32 0 4 4 (2 ^ 64 - 1)) n ≡ zero_padded 4 n
unfolding padded_integral char_count
padded_to_4 n = bare (4 - length (decimal n)) (decimal n)

pub padded_to_2 : (n : ℕ) → styled_decimal (format_spec 32 0 4 2 (2 ^ 64 - 1)) n ≡ zero_padded 2 n
unfolding padded_integral char_count
padded_to_2 n = bare (2 - length (decimal n)) (decimal n)
