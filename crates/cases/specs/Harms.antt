-- Which harm is done to a byte in each round.
use Rattle.std.specs.Prelude.{ℕ, ◌+◌, ◌*◌, ◌%◌, ◌^◌, List, [], ◌∷◌, ◌++◌, codes, cond, ◌==◌, slice_index, slice_set, take, drop}
use Rattle.cases.specs.declared.damage.Harm.{Harm}
use Rattle.cases.specs.declared.damage.Harm.TheVariants.{Lost, Doubled, Changed}

-- signs of messages, then a line feed, a carriage return, a tab, and a byte that no text has
abbrev pub signs : List ℕ
signs = codes "/ .:ADRZ019M-+EBHTVa" ++ 10 ∷ 13 ∷ 9 ∷ 200 ∷ []

-- the sign that a byte is changed to: another one from place to place, and from round to round
abbrev pub sign_at : ℕ → ℕ → ℕ
sign_at place round = slice_index signs ((place * 7 + round * 5) % 2 ^ 64 % 24)

-- first the byte is lost, then it is doubled, and from then on it is changed
abbrev pub harm_of : ℕ → ℕ → Harm
harm_of place round = cond (round == 0) Lost (cond (round == 1) Doubled (Changed (sign_at place round)))

-- a text with harm done to the byte at a place; where there is no such byte it stays as it is
abbrev pub harmed : Harm → ℕ → List ℕ → List ℕ
harmed Lost at text = take at text ++ drop (at + 1) text
harmed Doubled at text = take (at + 1) text ++ drop at text
harmed (Changed to) at text = slice_set text at to
