-- How items and lines come out, whatever follows them.
use Rattle.std.proofs.Common.{◌≡◌, ℕ, List, [], ◌∷◌, ◌++◌, length, Some, None, Ok, Err, Option, sym, refl, ap, ◌∙◌, append-nil, arith}
use Rattle.merging.specs.Merging.{Sided}
use Rattle.record.specs.Entries.{Entry}
use Rattle.refusals.specs.declared.Fault.{Fault}
use Rattle.refusals.specs.declared.Refusal.TheVariants.{Item}
use Rattle.events.specs.Events.{Event, fault, logged, refused}
use Rattle.events.specs.Passing.{logged_all}
use Rattle.events.specs.Room.{refusals}
use Rattle.daylight.specs.Settings.{Setting}
use Rattle.messages.specs.Models.{Common, Reached}
use Rattle.messages.specs.Turns.{Turned, turn}
use Rattle.logging.specs.Follow.{place_of, logs, turn_then, follow}
use Rattle.stages.specs.Stages.{Stage, Moved, onto, reads, refuses, came}

-- records, and then what follows at q, or a refusal
pub data Runs {Q : Type 0} (es : (Q → List Event) → List Event) : Type 0 where
  past : (xs : List (ℕ × Entry)) (q : Q) → ((k : Q → List Event) → es k ≡ logged_all xs ++ k q) → Runs es
  stopped : (xs : List (ℕ × Entry)) (f : Fault) → ((k : Q → List Event) → es k ≡ logged_all xs ++ refused f.refusal f.place ∷ []) → Runs es

logs_runs : (place : ℕ) (o : Option Entry) {es : (Reached → List Event) → List Event} → Runs es → Runs (λ k. logs place o (es k))
logs_runs place None r = r
logs_runs place (Some e) (past xs q is) = past ((place, e) ∷ xs) q (λ k. ap (λ l. logged place e ∷ l) (is k))
logs_runs place (Some e) (stopped xs f is) = stopped ((place, e) ∷ xs) f (λ k. ap (λ l. logged place e ∷ l) (is k))

turn_runs : (place : ℕ) (t : Turned) (more : Reached → (Reached → List Event) → List Event) → ((q : Reached) → Runs (more q)) → Runs (λ k. turn_then place t (λ q. more q k))
turn_runs place (Err r) more h = stopped [] (fault (Item r) place) (λ k. refl)
turn_runs place (Ok t) more h = logs_runs place t.1 (h t.0)

pub follow_runs : (S : Setting) (m : Common) (p : Reached) (xs : List Sided) → Runs (follow S m p xs)
follow_runs S m p [] = past [] p (λ k. refl)
follow_runs S m p (x ∷ xs) = turn_runs (place_of x) (turn S m p x) (λ q. follow S m q xs) (λ q. follow_runs S m q xs)

leads : (to : Reached → Stage) {es : (Reached → List Event) → List Event} → Runs es → Runs (λ (k : Stage → List Event). es (λ q. k (to q)))
leads to (past xs q is) = past xs (to q) (λ k. is (λ q. k (to q)))
leads to (stopped xs f is) = stopped xs f (λ k. is (λ q. k (to q)))

pub came_runs : (S : Setting) (X : Moved) → Runs (came S X)
came_runs S (onto σ) = past [] σ (λ k. refl)
came_runs S (reads m p parts to) = leads to (follow_runs S m p parts)
came_runs S (refuses f) = stopped [] f (λ k. refl)

-- a refusal is one
pub not_none : {f : Fault} {fs : List Fault} → f ∷ fs ≡ [] → ⊥
not_none e = let one = ap length e in omega arith

-- no record is a refusal
pub refusals-behind : (xs : List (ℕ × Entry)) (es : List Event) → refusals (logged_all xs ++ es) ≡ refusals es
refusals-behind [] es = refl
refusals-behind (x ∷ xs) es = refusals-behind xs es

pub refusals-append : (es fs : List Event) → refusals (es ++ fs) ≡ refusals es ++ refusals fs
refusals-append [] fs = refl
refusals-append (logged p e ∷ es) fs = refusals-append es fs
refusals-append (refused r p ∷ es) fs = ap (λ l. fault r p ∷ l) (refusals-append es fs)

-- where nothing is refused, what follows comes behind it; else nothing does
pub behind_read : {Q : Type 0} {es : (Q → List Event) → List Event} → Runs es → refusals (es (λ _. [])) ≡ [] → (rest : List Event) → es (λ _. rest) ≡ es (λ _. []) ++ rest
behind_read (past xs q is) none rest = is (λ _. rest) ∙ ap (λ l. l ++ rest) (sym (is (λ _. []) ∙ append-nil (logged_all xs)))
behind_read (stopped xs f is) none rest = absurd (not_none (sym (refusals-behind xs (refused f.refusal f.place ∷ [])) ∙ sym (ap refusals (is (λ _. []))) ∙ none))

pub behind_refused : {Q : Type 0} {es : (Q → List Event) → List Event} → Runs es → (refusals (es (λ _. [])) ≡ [] → ⊥) → (k : Q → List Event) → es k ≡ es (λ _. [])
behind_refused (past xs q is) some k = absurd (some (ap refusals (is (λ _. [])) ∙ refusals-behind xs []))
behind_refused (stopped xs f is) some k = is k ∙ sym (is (λ _. []))
