-- A list with room for some more, and what it comes to as things are put in.
use Rattle.std.specs.Prelude.{◌≡◌, ℕ, zero, suc, ◌-◌, List, [], ◌∷◌, ◌++◌, length, take, Ok, Err, Result}
use Rattle.slots.specs.declared.list.Full.{Full}
use Rattle.slots.specs.declared.list.Slots.{Slots}
use Rattle.slots.specs.Lists.{held, slots_room}

pub record Log (T : Type 0) : Type 0 where
  pub entries : List T
  pub room : ℕ

module _ {T : Type 0} where
  abbrev pub log : List T → ℕ → Log T
  log h n = record { entries = h; room = n }

  abbrev pub put_at : List T → ℕ → T → Log T
  put_at h zero x = log h zero
  put_at h (suc n) x = log (h ++ x ∷ []) n

  -- one more at the end and one less room, or no change where there is no room
  abbrev pub put : Log T → T → Log T
  put l x = put_at l.entries l.room x

  -- one after the other
  abbrev pub put_all : Log T → List T → Log T
  put_all l [] = l
  put_all l (x ∷ xs) = put_all (put l x) xs

  -- a list in lent slots
  abbrev pub of_slots : Slots T → Log T
  of_slots s = log (held s) (slots_room s)

-- as many go in as there is room for, in order
abbrev pub TakesIn : Type 0 → Type 0
TakesIn T = (h : List T) (n : ℕ) (xs : List T) → put_all (log h n) xs ≡ log (h ++ take n xs) (n - length xs)

-- the number by which users know how a put ended
abbrev pub put_number : {A : Type 0} → Result A Full → ℕ
put_number (Ok _) = 0
put_number (Err _) = 14
