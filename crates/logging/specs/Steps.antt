-- The times of the steps of .E.
use Rattle.std.specs.Prelude.{◌≡◌, ℕ, ◌+◌, ◌^◌, ◌<◌, false, cond, List, [], ◌∷◌, map, length, take, Some}
use Rattle.merging.specs.Merging.{is_d}
use Rattle.reader.specs.Lines.{Piece}
use Rattle.reader.specs.declared.kind.Form.TheVariants.{E}
use Rattle.record.specs.Entries.{Entry}
use Rattle.terms.specs.Observed.{observed_at}
use Rattle.events.specs.Events.{records}
use Rattle.events.specs.Room.{refusals}
use Rattle.daylight.specs.Settings.{Setting}
use Rattle.messages.specs.Models.{Common, Reached}
use Rattle.messages.specs.Turns.{is_empty}
use Rattle.logging.specs.Own.{own_items}
use Rattle.logging.specs.Walks.{comes}

-- the numbers of the steps that are not empty, among the items behind the code: an empty one counts too
abbrev pub numbered_steps : ℕ → List Piece → List ℕ
numbered_steps n [] = []
numbered_steps n (q ∷ qs) = cond (is_d q.1) (numbered_steps n qs) (cond (is_empty q.1) (numbered_steps (n + 1) qs) (n ∷ numbered_steps (n + 1) qs))

-- what the items of a message of steps come to, from its first step on
abbrev pub step_records : Setting → Common → Reached → List Piece → List Entry
step_records S m p qs = records (comes S m p (own_items E qs))

pub record StepsTimed : Type 0 where
  -- each record has the time of its own step by the terms that stand at the first: the start moved by DR, and by so many times DI
  pub timed : (S : Setting) (m : Common) (p : Reached) (code : List ℕ) (q : Piece) (qs : List Piece)
      → m.form ≡ E → p.code ≡ Some code → is_d q.1 ≡ false → p.steps + length (q ∷ qs) < 2 ^ 64
      → map (λ e. Some e.observed) (step_records S m p (q ∷ qs)) ≡ take (length (step_records S m p (q ∷ qs))) (map (λ i. observed_at S.daylight m.zone p.terms i) (numbered_steps p.steps (q ∷ qs)))
  -- where nothing is refused, each step that is not empty has its record
  pub each : (S : Setting) (m : Common) (p : Reached) (code : List ℕ) (qs : List Piece)
      → m.form ≡ E → p.code ≡ Some code → p.steps + length qs < 2 ^ 64 → refusals (comes S m p (own_items E qs)) ≡ [] → length (step_records S m p qs) ≡ length (numbered_steps p.steps qs)
