-- What a text comes to: records and refusals, each at its place.
use Rattle.std.specs.Prelude.{ℕ, zero, suc, List, [], ◌∷◌}
use Rattle.record.specs.Entries.{Entry}
use Rattle.refusals.specs.declared.Fault.{Fault}
use Rattle.refusals.specs.declared.Refusal.{Refusal}
use Rattle.refusals.specs.declared.Refusal.TheVariants.{NoRoom}

pub data Event : Type 0 where
  logged : ℕ → Entry → Event
  refused : Refusal → ℕ → Event

-- the records among them
abbrev pub records : List Event → List Entry
records [] = []
records (logged p e ∷ es) = e ∷ records es
records (refused r p ∷ es) = records es

abbrev pub fault : Refusal → ℕ → Fault
fault r p = record { refusal = r; place = p }

-- the faults that a sink with so much room lets one meet: up to the first record for which there is none
abbrev pub met : ℕ → List Event → List Fault
met room [] = []
met room (refused r p ∷ es) = fault r p ∷ met room es
met zero (logged p e ∷ es) = fault NoRoom p ∷ []
met (suc room) (logged p e ∷ es) = met room es

-- 14 where the room does not suffice
abbrev pub verdict : ℕ → List Event → ℕ
verdict room [] = 0
verdict room (refused r p ∷ es) = verdict room es
verdict zero (logged p e ∷ es) = 14
verdict (suc room) (logged p e ∷ es) = verdict room es
