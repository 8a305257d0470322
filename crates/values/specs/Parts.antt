-- What an amount looks like in a message, by its parts. It does not say how the parts are found.
use Rattle.std.specs.Prelude.{◌≡◌, ℕ, ◌+◌, ◌-◌, ◌*◌, ◌^◌, ◌<◌, ◌≤◌, true, List, [], ◌∷◌, ◌++◌, length, ℤ, pos, neg_ℤ, Some, None, Option, ◌↔◌}
use Rattle.values.specs.Numbers.{all_digits, amount_of}

-- the number that digits say: a digit with k digits behind it counts 10 ^ k
abbrev pub number : List ℕ → ℕ
number [] = 0
number (d ∷ ds) = (d - 48) * 10 ^ length ds + number ds

-- nothing but digits, at most so many
abbrev pub Digits : ℕ → List ℕ → Type 0
Digits most ds = (all_digits ds ≡ true) × (length ds ≤ most)

-- a sign, if one stands there
pub data Sign : Type 0 where
  none : Sign
  plus : Sign
  minus : Sign

abbrev pub sign_text : Sign → List ℕ
sign_text none = []
sign_text plus = 43 ∷ []
sign_text minus = 45 ∷ []

abbrev pub signed : Sign → ℕ → ℤ
signed none n = pos n
signed plus n = pos n
signed minus n = neg_ℤ (pos n)

-- a point with decimals behind it, or neither
abbrev pub fraction_text : Option (List ℕ) → List ℕ
fraction_text None = []
fraction_text (Some ds) = 46 ∷ ds

abbrev pub decimals_of : Option (List ℕ) → List ℕ
decimals_of None = []
decimals_of (Some ds) = ds

-- whole digits and decimals, in ten-thousandths
abbrev pub size : List ℕ → List ℕ → ℕ
size whole decimals = number whole * 10 ^ 4 + number decimals * 10 ^ (4 - length decimals)

-- the text writes the amount: perhaps a sign, up to eight digits, perhaps a point and up to four decimals, with at least one digit
pub record Writes (text : List ℕ) (amount : ℤ) : Type 0 where
  pub sign : Sign
  pub whole : List ℕ
  pub fraction : Option (List ℕ)
  pub parts : text ≡ sign_text sign ++ (whole ++ fraction_text fraction)
  pub digits : Digits 8 whole
  pub decimals : Digits 4 (decimals_of fraction)
  pub some : 0 < length whole + length (decimals_of fraction)
  pub says : amount ≡ signed sign (size whole (decimals_of fraction))

-- A text says an amount exactly where it writes it. So a text that says none writes none.
abbrev pub SaysWhatItWrites : Type 0
SaysWhatItWrites = (text : List ℕ) (amount : ℤ) → (amount_of text ≡ Some amount) ↔ Writes text amount
