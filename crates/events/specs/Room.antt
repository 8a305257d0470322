-- What room does to a decode.
use Rattle.std.specs.Prelude.{◌≡◌, ℕ, ◌<◌, ◌≤◌, List, [], ◌∷◌, ◌++◌, length}
use Rattle.record.specs.Entries.{Entry}
use Rattle.refusals.specs.declared.Fault.{Fault}
use Rattle.refusals.specs.declared.Refusal.TheVariants.{NoRoom}
use Rattle.events.specs.Events.{Event, logged, refused, fault, records, met, verdict}

-- the refusals among the events
abbrev pub refusals : List Event → List Fault
refusals [] = []
refusals (logged p e ∷ es) = refusals es
refusals (refused r p ∷ es) = fault r p ∷ refusals es

pub record Rooms : Type 0 where
  -- where there is room for every record, the answer is 0 and the faults met are the refusals of the text
  pub ample : (n : ℕ) (es : List Event) → length (records es) ≤ n → (verdict n es ≡ 0) × (met n es ≡ refusals es)
  -- where there is not, the answer is 14
  pub short : (n : ℕ) (es : List Event) → n < length (records es) → verdict n es ≡ 14
  -- the faults met are then the refusals before the first record without room, and 14 at its place, whatever follows
  pub runs_out : (before after : List Event) (p : ℕ) (e : Entry) → met (length (records before)) (before ++ logged p e ∷ after) ≡ refusals before ++ fault NoRoom p ∷ []
