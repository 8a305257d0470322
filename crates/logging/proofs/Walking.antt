-- From which item each record and each refusal comes.
use Rattle.std.proofs.Common.{◌≡◌, ℕ, zero, suc, Bool, true, List, [], ◌∷◌, length, replicate, Some, None, Ok, Err, Option, refl, ap, ◌∙◌, subst}
use Rattle.std.specs.List.{AllByRecursion}
use Rattle.std.proofs.ByRecursion.{All-weaker}
use Rattle.merging.specs.Merging.{Sided}
use Rattle.reader.specs.declared.kind.Form.{Form}
use Rattle.reader.specs.declared.kind.Form.TheVariants.{A, B, E}
use Rattle.record.specs.Entries.{Entry}
use Rattle.record.specs.declared.series.Series.TheVariants.{Later}
use Rattle.refusals.specs.declared.Fault.{Fault}
use Rattle.events.specs.Events.{Event, records}
use Rattle.events.specs.Room.{refusals}
use Rattle.daylight.specs.Settings.{Setting}
use Rattle.messages.specs.Carrying.{Shares, mark_in, begun_after}
use Rattle.messages.specs.Models.{Common, Reached}
use Rattle.messages.specs.Refusing.{Coded}
use Rattle.messages.specs.Turns.{Turned, turn}
use Rattle.messages.proofs.Carried.{record_given, series_begun}
use Rattle.messages.proofs.Kept.{keeps}
use Rattle.messages.proofs.Refused.{lowest}
use Rattle.logging.specs.Follow.{place_of, logs, turn_then, follow}
use Rattle.logging.specs.Walks.{Met, Recorded, RefusedAt, series_marks, marks_in, marks_of, comes, ItemsCarry}

-- marks of records, one after the other
unbegun : (f : Form) (b : Bool) (n : ℕ) → marks_in f (begun_after f b None) n ≡ marks_in f b n
unbegun A b n = refl
unbegun B b n = refl
unbegun E b n = refl

on_series : (n : ℕ) → series_marks true n ≡ replicate n Later
on_series zero = refl
on_series (suc n) = refl

one_mark : (f : Form) (b : Bool) (e : Entry) (n : ℕ) → mark_in f b ∷ marks_in f (begun_after f b (Some e)) n ≡ marks_in f b (suc n)
one_mark A b e n = refl
one_mark B b e n = refl
one_mark E b e n = ap (λ l. mark_in E b ∷ l) (on_series n)

pub none_marked : (f : Form) (b : Bool) → [] ≡ marks_in f b 0
none_marked A b = refl
none_marked B b = refl
none_marked E b = refl

module _ (S : Setting) (m : Common) where
  abbrev here : (p : Reached) (x : Sided) (xs : List Sided) → Met S m p (x ∷ xs)
  here p x xs = record { before = []; item = x; behind = xs; parts = refl; at = p; brought = refl }

  abbrev later : (p : Reached) (x : Sided) (xs : List Sided) (t : Reached × Option Entry) → turn S m p x ≡ Ok t → Met S m t.0 xs → Met S m p (x ∷ xs)
  later p x xs t e y = record { before = x ∷ y.before; item = y.item; behind = y.behind; parts = ap (λ zs. x ∷ zs) y.parts; at = y.at; brought = (t, (e, y.brought)) }

  -- what items come to, where it is told what the first does
  abbrev pub comes_by : Sided → List Sided → Turned → List Event
  comes_by x xs t = turn_then (place_of x) t (λ q. comes S m q xs)

  -- records
  abbrev AllRecorded : Reached → List Sided → List Event → Type 0
  AllRecorded p xs es = AllByRecursion (Recorded S m p xs) (records es)

  recorded_later : (p : Reached) (x : Sided) (xs : List Sided) (t : Reached × Option Entry) → turn S m p x ≡ Ok t → (es : List Entry) → AllByRecursion (Recorded S m t.0 xs) es → AllByRecursion (Recorded S m p (x ∷ xs)) es
  recorded_later p x xs t e es h = All-weaker (Recorded S m t.0 xs) (Recorded S m p (x ∷ xs)) (λ r y. (later p x xs t e y.0, y.1)) es h

  recorded_logs : (p : Reached) (x : Sided) (xs : List Sided) (q : Reached) (o : Option Entry) → turn S m p x ≡ Ok (q, o) → AllRecorded q xs (comes S m q xs) → AllRecorded p (x ∷ xs) (logs (place_of x) o (comes S m q xs))
  recorded_logs p x xs q None e h = recorded_later p x xs (q, None) e (records (comes S m q xs)) h
  recorded_logs p x xs q (Some r) e h = ((here p x xs, record_given S m p q x r e), recorded_later p x xs (q, Some r) e (records (comes S m q xs)) h)

  recorded_by : (p : Reached) (x : Sided) (xs : List Sided) (t : Turned) → turn S m p x ≡ t → ((q : Reached) → AllRecorded q xs (comes S m q xs)) → AllRecorded p (x ∷ xs) (comes_by x xs t)
  recorded_by p x xs (Err r) e h = tt
  recorded_by p x xs (Ok t) e h = recorded_logs p x xs t.0 t.1 e (h t.0)

  recorded : (p : Reached) (xs : List Sided) → AllRecorded p xs (comes S m p xs)
  recorded p [] = tt
  recorded p (x ∷ xs) = recorded_by p x xs (turn S m p x) refl (λ q. recorded q xs)

  shared : (p : Reached) (xs : List Sided) → AllByRecursion (Shares m) (records (comes S m p xs))
  shared p xs = All-weaker (Recorded S m p xs) (Shares m) (λ e r. r.1.1.1.shares) (records (comes S m p xs)) (recorded p xs)

  -- marks
  abbrev pub Marked : Reached → List Event → Type 0
  Marked p es = marks_of es ≡ marks_in m.form p.begun (length (records es))

  module _ (k : Reached → List Event) (then : (q : Reached) → Marked q (k q)) where
    marked_logs : (p : Reached) (x : Sided) (xs : List Sided) (q : Reached) (o : Option Entry) → turn S m p x ≡ Ok (q, o) → Marked q (follow S m q xs k) → Marked p (logs (place_of x) o (follow S m q xs k))
    marked_logs p x xs q None e h =
        let n = length (records (follow S m q xs k)) in
        h ∙ ap (λ b. marks_in m.form b n) (series_begun S m p q x None e) ∙ unbegun m.form p.begun n
    marked_logs p x xs q (Some r) e h =
        let n = length (records (follow S m q xs k)) in
        let c = (record_given S m p q x r e).1.1 in
        ap (λ s. s ∷ marks_of (follow S m q xs k)) c.series
        ∙ ap (λ l. mark_in m.form p.begun ∷ l) (h ∙ ap (λ b. marks_in m.form b n) (series_begun S m p q x (Some r) e))
        ∙ one_mark m.form p.begun r n

    marked_by : (p : Reached) (x : Sided) (xs : List Sided) (t : Turned) → turn S m p x ≡ t → ((q : Reached) → Marked q (follow S m q xs k)) → Marked p (turn_then (place_of x) t (λ q. follow S m q xs k))
    marked_by p x xs (Err r) e h = none_marked m.form p.begun
    marked_by p x xs (Ok t) e h = marked_logs p x xs t.0 t.1 e (h t.0)

    -- items, and what follows them
    pub marked_on : (p : Reached) (xs : List Sided) → Marked p (follow S m p xs k)
    marked_on p [] = then p
    marked_on p (x ∷ xs) = marked_by p x xs (turn S m p x) refl (λ q. marked_on q xs)

  -- refusals
  abbrev AllRefused : Reached → List Sided → List Fault → Type 0
  AllRefused p xs fs = AllByRecursion (RefusedAt S m p xs) fs

  logs_refuse : (place : ℕ) (o : Option Entry) (es : List Event) → refusals es ≡ refusals (logs place o es)
  logs_refuse place None es = refl
  logs_refuse place (Some e) es = refl

  refused_by : (p : Reached) (x : Sided) (xs : List Sided) (t : Turned) → Coded p → turn S m p x ≡ t → ((q : Reached) → Coded q → AllRefused q xs (refusals (comes S m q xs))) → AllRefused p (x ∷ xs) (refusals (comes_by x xs t))
  refused_by p x xs (Err r) c e h = ((here p x xs, (r, (refl, lowest S m p x r c e))), tt)
  refused_by p x xs (Ok t) c e h =
      subst (AllRefused p (x ∷ xs)) (logs_refuse (place_of x) t.1 (comes S m t.0 xs))
      (All-weaker (RefusedAt S m t.0 xs) (RefusedAt S m p (x ∷ xs)) (λ f y. (later p x xs t e y.0, y.1)) (refusals (comes S m t.0 xs)) (h t.0 (keeps S m p t.0 x t.1 c e)))

  refused_lem : (p : Reached) (xs : List Sided) → Coded p → AllRefused p xs (refusals (comes S m p xs))
  refused_lem p [] c = tt
  refused_lem p (x ∷ xs) c = refused_by p x xs (turn S m p x) c refl (λ q d. refused_lem q xs d)

pub items_carry : ItemsCarry
items_carry = record { recorded = recorded; shared = shared; marked = λ S m. marked_on S m (λ _. []) (λ q. none_marked m.form q.begun); refused = refused_lem }
