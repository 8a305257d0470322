-- An SI amount in the English unit: times the element's fraction, plus its offset, to the nearest ten-thousandth.
use Rattle.std.specs.Prelude.{◌≡◌, ℕ, suc, ◌+◌, ◌*◌, ◌/◌, ◌<◌, ◌≤◌, ℤ, pos, negsuc, ◌+ℤ◌, ◌-ℤ◌, ◌*ℤ◌, neg_ℤ, unsigned_abs}
use Rattle.quantity.specs.declared.element.Element.{Element}

-- the whole number nearest to p / den, halves upward
abbrev pub nearest : ℕ → ℕ → ℕ
nearest den p = (2 * p + den) / (2 * den)

-- the same with a sign, halves away from zero
abbrev pub rounded : ℕ → ℤ → ℤ
rounded den (pos p) = pos (nearest den p)
rounded den (negsuc p) = neg_ℤ (pos (nearest den (suc p)))

-- the exact English amount, times the denominator, so that it is a whole number
abbrev pub exact : Element → ℤ → ℤ
exact e a = pos e.numerator *ℤ a +ℤ pos (e.offset * e.denominator)

abbrev pub converted : Element → ℤ → ℤ
converted e a = rounded e.denominator (exact e a)

-- how far the whole number r is from p / den, times den
abbrev pub off : ℕ → ℤ → ℤ → ℕ
off den p r = unsigned_abs (pos den *ℤ r -ℤ p)

-- r is nearest to p / den, and at a tie the larger in size
pub record Nearest (den : ℕ) (p r : ℤ) : Type 0 where
  pub near : 2 * off den p r ≤ den
  pub tie : 2 * off den p r ≡ den → unsigned_abs p < den * unsigned_abs r

-- a fraction p / den rounded is the nearest whole number to it
abbrev pub Rounds : Type 0
Rounds = (den : ℕ) (p : ℤ) → 0 < den → Nearest den p (rounded den p)

-- and it is the only one
abbrev pub RoundsOnly : Type 0
RoundsOnly = (den : ℕ) (p r : ℤ) → 0 < den → Nearest den p r → r ≡ rounded den p

-- a converted amount is the whole number of ten-thousandths nearest to the exact amount, at a tie the larger in size
abbrev pub ConvertsToNearest : Type 0
ConvertsToNearest = (e : Element) (a : ℤ) → Nearest e.denominator (exact e a) (converted e a)

-- and no other number is
abbrev pub ConvertsOnly : Type 0
ConvertsOnly = (e : Element) (a b : ℤ) → Nearest e.denominator (exact e a) b → b ≡ converted e a
