-- The moves that DR and DI items say.
use Rattle.std.specs.Prelude.{ℕ, ◌-◌, Bool, true, false, cond, ◌||◌, List, [], ◌∷◌, ℤ, pos, neg_ℤ, Some, None, Option, ◌==◌}
use Rattle.std.specs.Option.{option_map}
use Rattle.text.specs.Signs.{digit, pair_of}
use Rattle.instants.specs.declared.moves.Move.{Move}
use Rattle.instants.specs.declared.moves.Unit.{Unit as MoveUnit}
use Rattle.instants.specs.declared.moves.Unit.TheVariants.{Second, Minute, Hour, Day, Month, Year, MonthEnd}
use Rattle.calendar.specs.Ways.{and_then}

-- S, N, H, D, M, Y and E
abbrev pub unit_of : ℕ → Option MoveUnit
unit_of b =
    cond (b == 83) (Some Second) (cond (b == 78) (Some Minute) (cond (b == 72) (Some Hour) (cond (b == 68) (Some Day)
    (cond (b == 77) (Some Month) (cond (b == 89) (Some Year) (cond (b == 69) (Some MonthEnd) None))))))

-- the number that one or two digits write
abbrev pub figures : List ℕ → Option ℕ
figures [] = None
figures (a ∷ []) = cond (digit a) (Some (a - 48)) None
figures (a ∷ b ∷ []) = pair_of a b
figures (a ∷ b ∷ c ∷ rest) = None

-- a minus stands in front
abbrev pub is_back : List ℕ → Bool
is_back [] = false
is_back (c ∷ rest) = c == 45

-- what follows the sign, if there is one
abbrev pub less_sign : List ℕ → List ℕ
less_sign [] = []
less_sign (c ∷ rest) = cond (c == 45 || c == 43) rest (c ∷ rest)

-- a number, or the same below zero
abbrev pub directed : Bool → ℕ → ℤ
directed true n = neg_ℤ (pos n)
directed false n = pos n

-- perhaps a sign, and one or two digits
unfoldable pub count_of : List ℕ → Option ℤ
count_of bs = option_map (directed (is_back bs)) (figures (less_sign bs))

abbrev pub move_by : MoveUnit → ℤ → Move
move_by u n = record { unit = u; count = n }

-- a unit's letter and a count
unfoldable pub move_of : List ℕ → Option Move
move_of [] = None
move_of (letter ∷ rest) = and_then (unit_of letter) (λ u. option_map (move_by u) (count_of rest))
