-- What room does to a decode.
use Rattle.std.proofs.Common.{◌≡◌, ℕ, zero, suc, ◌<◌, ◌≤◌, List, [], ◌∷◌, ◌++◌, length, refl, ap, arith}
use Rattle.record.specs.Entries.{Entry}
use Rattle.refusals.specs.declared.Refusal.TheVariants.{NoRoom}
use Rattle.events.specs.Events.{Event, logged, refused, fault, records, met, verdict}
use Rattle.events.specs.Room.{refusals, Rooms}

ample : (n : ℕ) (es : List Event) → length (records es) ≤ n → (verdict n es ≡ 0) × (met n es ≡ refusals es)
ample n [] h = (refl, refl)
ample n (refused r p ∷ es) h = ((ample n es h).0, ap (λ l. fault r p ∷ l) (ample n es h).1)
ample zero (logged p e ∷ es) h = absurd (omega arith)
ample (suc n) (logged p e ∷ es) h = ample n es (omega arith)

short : (n : ℕ) (es : List Event) → n < length (records es) → verdict n es ≡ 14
short n [] h = absurd (omega arith)
short n (refused r p ∷ es) h = short n es h
short zero (logged p e ∷ es) h = refl
short (suc n) (logged p e ∷ es) h = short n es (omega arith)

runs_out : (before after : List Event) (p : ℕ) (e : Entry) → met (length (records before)) (before ++ logged p e ∷ after) ≡ refusals before ++ fault NoRoom p ∷ []
runs_out [] after p e = refl
runs_out (logged q f ∷ es) after p e = runs_out es after p e
runs_out (refused r q ∷ es) after p e = ap (λ l. fault r q ∷ l) (runs_out es after p e)

pub rooms : Rooms
rooms = record { ample = ample; short = short; runs_out = runs_out }
