-- Items read one after the other.
use Rattle.std.proofs.Common.{◌≡◌, ℕ, ◌<◌, List, ◌∷◌, Some, Ok, Err, Option, Result, MatchResult, IsErrAnd, sym, refl, ap, ◌∙◌, subst}
use Rattle.record.specs.Entries.{Entry}
use Rattle.refusals.specs.declared.Fault.{Fault}
use Rattle.refusals.specs.declared.ItemRefusal.{ItemRefusal}
use Rattle.refusals.specs.declared.Refusal.TheVariants.{Item, NoRoom}
use Rattle.sink.specs.Logs.{Log, put}
use Rattle.merging.specs.Merging.{Sided}
use Rattle.events.specs.Events.{Event, fault}
use Rattle.events.specs.Passing.{Passed, Stopped, Comes}
use Rattle.std.proofs.lemmas.Result.{err_from_is_err_and}
use Rattle.events.proofs.Passes.{comes_err, nothing, kept, one, same, pulled, pulled_stopped, renamed, renamed_stopped, onward, onward_stopped}
use Rattle.daylight.specs.Settings.{Setting}
use Rattle.messages.specs.Models.{Common, Reached}
use Rattle.messages.specs.Turns.{Turned, turn}
use Rattle.logging.specs.Follow.{place_of, logs, turn_then, follow}

-- what a result was before its error was changed
pub was_ok : {T E D : Type 0} (r : Result T E) (w : Result T D) (P : E → D → Type 0) (x : T) → w ≡ Ok x → MatchResult r (λ y. w ≡ Ok y) (λ e. IsErrAnd w (P e)) → Ok x ≡ r
was_ok (Ok y) w P x e h = let n : Ok x ≡ Ok y = sym e ∙ h in cc n
was_ok (Err d) w P x e h = absurd (subst (λ q. IsErrAnd q (P d)) e h)

pub was_err : {T E D : Type 0} (r : Result T E) (w : Result T D) (P : E → D → Type 0) (d : D) → w ≡ Err d → MatchResult r (λ y. w ≡ Ok y) (λ e. IsErrAnd w (P e)) → (e : E) × (Err e ≡ r) × P e d
was_err (Ok y) w P d e h = let n : Ok y ≡ Err d = sym h ∙ e in absurd (cc n)
was_err (Err x) w P d e h = (x, refl, subst (λ q. IsErrAnd q (P x)) e h)

-- a record is logged, or finds no room
pub logged_one : (place : ℕ) {l m : Log Entry} {e : Entry} {o : Option Entry} → o ≡ Some e → m ≡ put l e → 0 < l.room → Passed l m (logs place o) (λ k. k)
logged_one place {l} {m} {e} {o} is holds room = one (nothing (logs place o)) (λ k. ap (λ x. logs place x k) is) holds room

pub no_room : (place : ℕ) {l m : Log Entry} {e : Entry} {o : Option Entry} → o ≡ Some e → m ≡ l → l.room ≡ 0 → Stopped (fault NoRoom place) l m (logs place o)
no_room place {l} {m} {e} {o} is same_log room = record {
  rest = logs place o;
  passed = kept (logs place o) same_log;
  stops = record { none = ap (λ (x : Log Entry). x.room) same_log ∙ room; next = e; tail = λ k. k; is = λ k. ap (λ x. logs place x k) is };
}

-- a record is logged, or finds no room
pub put_or_full : {S E : Type 0} (holds : S → Log Entry) (place : ℕ) (s t : S) {e : Entry} {o : Option Entry} (r : Result (Unit {0}) E) (w : Result (Unit {0}) Fault) (P : E → Fault → Type 0)
    → o ≡ Some e → holds t ≡ put (holds s) e → MatchResult r (λ x. 0 < (holds s).room) (λ x. ((holds s).room ≡ 0) × (t ≡ s))
    → MatchResult r (λ y. w ≡ Ok y) (λ x. IsErrAnd w (P x)) → ((x : E) (f : Fault) → P x f → f ≡ fault NoRoom place) → Comes w (holds s) (holds t) (logs place o) (λ x k. k)
put_or_full holds place s t {e} {o} (Ok y) w P is puts fits h full =
    subst (λ (q : Result (Unit {0}) Fault). Comes q (holds s) (holds t) (logs place o) (λ x k. k)) (sym h) (logged_one place is puts fits)
put_or_full holds place s t {e} {o} (Err x) w P is puts fits h full =
    let q = err_from_is_err_and w h in comes_err (holds s) (holds t) (logs place o) (λ x k. k) q.1 (full x q.0 q.2) (no_room place is (ap holds fits.1) fits.0)

at_place : (place at : ℕ) (turned : Turned) (t : Reached × Option Entry) → place ≡ at → Ok t ≡ turned → (k : Reached → List Event) → turn_then at turned k ≡ logs place t.1 (k t.0)
at_place place at turned t here e k = sym (ap (λ x. turn_then place x k) e ∙ ap (λ q. turn_then q turned k) here)

module _ (place at : ℕ) (turned : Turned) (t : Reached × Option Entry) {l m : Log Entry} where
  pub took : place ≡ at → Ok t ≡ turned → Passed l m (logs place t.1) (λ k. k) → Passed l m (turn_then at turned) (λ k. k t.0)
  took here e p = renamed (at_place place at turned t here e) (pulled (λ (k : Reached → List Event). k t.0) p)

  pub took_full : {f : Fault} → place ≡ at → Ok t ≡ turned → Stopped f l m (logs place t.1) → Stopped f l m (turn_then at turned)
  took_full here e s = renamed_stopped (at_place place at turned t here e) (pulled_stopped (λ (k : Reached → List Event). k t.0) s)

pub took_refused : (place at : ℕ) (turned : Turned) (r : ItemRefusal) {l : Log Entry} → place ≡ at → Err r ≡ turned → Stopped (fault (Item r) place) l l (turn_then at turned)
took_refused place at turned r {l} here e =
    record { rest = turn_then at turned; passed = nothing (turn_then at turned); stops = λ k. sym (ap (λ x. turn_then place x k) e ∙ ap (λ q. turn_then q turned k) here) }

module _ (S : Setting) (m : Common) (p : Reached) (x : Sided) (xs : List Sided) {l a : Log Entry} {whole : (Reached → List Event) → List Event} {ps : List Sided} where
  next_part : ps ≡ x ∷ xs → Passed l a whole (follow S m p ps) → Passed l a whole (λ k. turn_then (place_of x) (turn S m p x) (λ q. follow S m q xs k))
  next_part e P = same P (λ k. ap (λ zs. follow S m p zs k) e)

  pub read_more : (q : Reached) {b : Log Entry} → ps ≡ x ∷ xs → Passed l a whole (follow S m p ps) → Passed a b (turn_then (place_of x) (turn S m p x)) (λ k. k q) → Passed l b whole (follow S m q xs)
  read_more q e P T = onward (λ (k : Reached → List Event) (r : Reached). follow S m r xs k) (next_part e P) T (λ k. refl)

  pub read_stopped : {b : Log Entry} {f : Fault} → ps ≡ x ∷ xs → Passed l a whole (follow S m p ps) → Stopped f a b (turn_then (place_of x) (turn S m p x)) → Stopped f l b whole
  read_stopped e P T = onward_stopped (λ (k : Reached → List Event) (r : Reached). follow S m r xs k) (next_part e P) T
