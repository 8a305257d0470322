-- The fractions and offsets that a conversion can take.
use Rattle.std.specs.Prelude.{ℕ, ◌*◌, ◌^◌, Bool, ◌&&◌, nat_lt}

-- numerator, denominator, and offset in ten-thousandths
abbrev pub fair : ℕ → ℕ → ℕ → Bool
fair n d o = nat_lt n (2 * 10 ^ 6) && (nat_lt 0 d && (nat_lt d (6 * 10 ^ 7) && nat_lt o (10 ^ 6)))
