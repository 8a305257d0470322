-- What a move looks like in an item, and that it is read so. The forms do not say how they are read.
use Rattle.std.specs.Prelude.{◌≡◌, ℕ, ◌+◌, ◌*◌, ◌<◌, List, [], ◌∷◌, ◌++◌, ℤ, pos, neg_ℤ, Some, ◌↔◌, codes}
use Rattle.instants.specs.declared.moves.Move.{Move}
use Rattle.instants.specs.declared.moves.Unit.{Unit as MoveUnit}
use Rattle.instants.specs.declared.moves.Unit.TheVariants.{Second, Minute, Hour, Day, Month, Year, MonthEnd}
use Rattle.ditems.specs.Moves.{move_of}

-- the letter of a unit
abbrev pub letter_of : MoveUnit → List ℕ
letter_of Second = codes "S"
letter_of Minute = codes "N"
letter_of Hour = codes "H"
letter_of Day = codes "D"
letter_of Month = codes "M"
letter_of Year = codes "Y"
letter_of MonthEnd = codes "E"

-- one digit or two, and the number that they write
pub data Figures : List ℕ → ℕ → Type 0 where
  one : (d : ℕ) → d < 10 → Figures ((48 + d) ∷ []) d
  two : (t d : ℕ) → t < 10 → d < 10 → Figures ((48 + t) ∷ (48 + d) ∷ []) (t * 10 + d)

-- perhaps a sign, and figures; only a minus turns the number
pub data Counted : List ℕ → ℤ → Type 0 where
  bare : {ds : List ℕ} {n : ℕ} → Figures ds n → Counted ds (pos n)
  plus : {ds : List ℕ} {n : ℕ} → Figures ds n → Counted (codes "+" ++ ds) (pos n)
  minus : {ds : List ℕ} {n : ℕ} → Figures ds n → Counted (codes "-" ++ ds) (neg_ℤ (pos n))

-- a unit's letter and a count
pub data MoveWritten : List ℕ → Move → Type 0 where
  written : (unit : MoveUnit) {cs : List ℕ} {count : ℤ} → Counted cs count → MoveWritten (letter_of unit ++ cs) (record { unit = unit; count = count })

-- A text is read as a move exactly where it writes it. So a text that writes none is none.
abbrev pub MovesAsWritten : Type 0
MovesAsWritten = (text : List ℕ) (move : Move) → (move_of text ≡ Some move) ↔ MoveWritten text move
