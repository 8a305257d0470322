-- The times of the steps of .E.
use Rattle.std.proofs.Common.{◌≡◌, ℕ, suc, ◌+◌, ◌-◌, ◌^◌, ◌<◌, min, Bool, true, false, cond, not, ◌||◌, eqb, List, [], ◌∷◌, map, length, take, is_some, Some, None, Ok, Err, Option, Result, sym, refl, ap, ◌∙◌, subst, ne_eqb, arith}
use Rattle.std.specs.Option.{ok_or}
use Rattle.std.proofs.lemmas.Bool.{cond-false}
use Rattle.calendar.specs.declared.date.Date.{Date}
use Rattle.merging.specs.Merging.{of_line, is_d}
use Rattle.reader.specs.Lines.{Piece}
use Rattle.reader.specs.declared.kind.Form.TheVariants.{E}
use Rattle.record.specs.Entries.{Entry}
use Rattle.refusals.specs.declared.ItemRefusal.{ItemRefusal}
use Rattle.refusals.specs.declared.ItemRefusal.TheVariants.{DItem, NoCodeOrInterval}
use Rattle.terms.specs.Items.{after_item}
use Rattle.terms.specs.Observed.{observed_at}
use Rattle.terms.specs.Standing.{Standing}
use Rattle.terms.specs.TermLaws.{SameTime}
use Rattle.terms.specs.declared.stage.Stage.TheVariants.{BeforeSteps, AmongSteps}
use Rattle.terms.proofs.Apart.{same_observed}
use Rattle.terms.proofs.Changes.{among_steps_lem}
use Rattle.events.specs.Events.{Event, records}
use Rattle.events.specs.Room.{refusals}
use Rattle.daylight.specs.Settings.{Setting}
use Rattle.messages.specs.Models.{Common, Reached}
use Rattle.messages.specs.Roles.{Asked, asked_in, role_in, item_asked}
use Rattle.messages.specs.Turns.{silent, is_empty, with_terms, d_item, valued, gives, next_step, mark_of_step, step_of_e, stage_of, code_or_step, item_of_e, item_of_line, turn}
use Rattle.messages.specs.Ways.{then_ok}
use Rattle.messages.proofs.Carried.{record_given}
use Rattle.logging.specs.Own.{own_items}
use Rattle.logging.specs.Steps.{numbered_steps, step_records, StepsTimed}
use Rattle.logging.specs.Walks.{comes}
use Rattle.logging.proofs.Walking.{comes_by}

same_on : (r s t : Standing) → SameTime r s → SameTime s t → SameTime r t
same_on r s t g h = record { groups = h.groups ∙ g.groups; relative = h.relative ∙ g.relative; interval = h.interval ∙ g.interval }

among : (n : ℕ) → 0 < n → stage_of n ≡ AmongSteps
among n some = cond-false (eqb n 0) BeforeSteps AmongSteps (ne_eqb n 0 (λ e. omega arith))

module _ (S : Setting) (m : Common) (is : m.form ≡ E) where
  -- what an item behind the code does
  data Way (p : Reached) (q : Piece) : Type 0 where
    stopped : (r : ItemRefusal) → turn S m p (of_line q) ≡ Err r → Way p q
    set : is_d q.1 ≡ true → (t : Standing) → turn S m p (of_line q) ≡ Ok (with_terms p t, None) → after_item S.today S.daylight m.zone (stage_of p.steps) q.1 p.terms ≡ Some t → Way p q
    empty : is_d q.1 ≡ false → is_empty q.1 ≡ true → turn S m p (of_line q) ≡ Ok (next_step p p.begun, None) → Way p q
    given : is_d q.1 ≡ false → is_empty q.1 ≡ false → (e : Entry) → turn S m p (of_line q) ≡ Ok (next_step p true, Some e) → Way p q

  module _ (p : Reached) (code : List ℕ) (has : p.code ≡ Some code) (q : Piece) where
    turn_is : turn S m p (of_line q) ≡ cond (is_d q.1) (d_item S m p (stage_of p.steps) q.1) (step_of_e S.daylight m p code q.1)
    unfolding item_of_e
    turn_is = ap (λ f. item_of_line f S m p q.1) is ∙ ap (λ o. cond (is_d q.1) (d_item S m p (stage_of p.steps) q.1) (code_or_step S m p o q.1)) has

    d_way : (o : Option Standing) → is_d q.1 ≡ true → after_item S.today S.daylight m.zone (stage_of p.steps) q.1 p.terms ≡ o → turn S m p (of_line q) ≡ then_ok (ok_or o DItem) (λ t. silent (with_terms p t)) → Way p q
    d_way None d a e = stopped DItem e
    d_way (Some t) d a e = set d t e a

    value_way : (r : Result Entry ItemRefusal) → is_d q.1 ≡ false → is_empty q.1 ≡ false → turn S m p (of_line q) ≡ gives (next_step p true) r → Way p q
    value_way (Err r) d n e = stopped r e
    value_way (Ok x) d n e = given d n x e

    abbrev step_value : Result Entry ItemRefusal
    step_value = valued S.daylight m p.terms code q.1 (mark_of_step p.begun) p.steps

    plain_way : (b : Bool) → is_d q.1 ≡ false → is_empty q.1 ≡ false → turn S m p (of_line q) ≡ cond b (gives (next_step p true) step_value) (Err NoCodeOrInterval) → Way p q
    plain_way true d n e = value_way step_value d n e
    plain_way false d n e = stopped NoCodeOrInterval e

    step_way : (b : Bool) → is_d q.1 ≡ false → is_empty q.1 ≡ b
        → turn S m p (of_line q) ≡ cond b (silent (next_step p p.begun)) (cond (is_some p.terms.interval) (gives (next_step p true) step_value) (Err NoCodeOrInterval)) → Way p q
    step_way true d n e = empty d n e
    step_way false d n e = plain_way (is_some p.terms.interval) d n e

    way_by : (b : Bool) → is_d q.1 ≡ b → turn S m p (of_line q) ≡ cond b (d_item S m p (stage_of p.steps) q.1) (step_of_e S.daylight m p code q.1) → Way p q
    unfolding d_item step_of_e
    way_by true d e = d_way (after_item S.today S.daylight m.zone (stage_of p.steps) q.1 p.terms) d refl e
    way_by false d e = step_way (is_empty q.1) d refl e

    way : Way p q
    way = way_by (is_d q.1) refl turn_is

    -- the record of a step has the time of its number
    asked_is : is_d q.1 ≡ false → is_empty q.1 ≡ false → item_asked m p (of_line q) ≡ Some (record { code = p.code; text = q.1; step = p.steps })
    asked_is d n =
        ap (λ b. cond (not (b || is_d q.1)) (asked_in (role_in m.form p.code) p q.1) None) n ∙ ap (λ b. cond (not b) (asked_in (role_in m.form p.code) p q.1) None) d
        ∙ ap (λ f. asked_in (role_in f p.code) p q.1) is ∙ ap (λ o. asked_in (role_in E o) p q.1) has

    its_time : is_d q.1 ≡ false → is_empty q.1 ≡ false → (e : Entry) → turn S m p (of_line q) ≡ Ok (next_step p true, Some e) → observed_at S.daylight m.zone p.terms p.steps ≡ Some e.observed
    its_time d n e h =
        let r = record_given S m p (next_step p true) (of_line q) e h in
        let own : Some (record { code = p.code; text = q.1; step = p.steps }) ≡ Some r.0 = sym (asked_is d n) ∙ r.1.0 in
        let same : record { code = p.code; text = q.1; step = p.steps } ≡ r.0 = cc in
        ap (λ (a : Asked). observed_at S.daylight m.zone p.terms a.step) same ∙ r.1.1.observed

  -- the numbers of the steps, by what their first item is
  module _ (n : ℕ) (q : Piece) (qs : List Piece) where
    by_d : is_d q.1 ≡ true → numbered_steps n (q ∷ qs) ≡ numbered_steps n qs
    by_d d = ap (λ b. cond b (numbered_steps n qs) (cond (is_empty q.1) (numbered_steps (n + 1) qs) (n ∷ numbered_steps (n + 1) qs))) d

    by_step : is_d q.1 ≡ false → numbered_steps n (q ∷ qs) ≡ cond (is_empty q.1) (numbered_steps (n + 1) qs) (n ∷ numbered_steps (n + 1) qs)
    by_step d = ap (λ b. cond b (numbered_steps n qs) (cond (is_empty q.1) (numbered_steps (n + 1) qs) (n ∷ numbered_steps (n + 1) qs))) d

    by_none : is_d q.1 ≡ false → is_empty q.1 ≡ true → numbered_steps n (q ∷ qs) ≡ numbered_steps (n + 1) qs
    by_none d e = by_step d ∙ ap (λ b. cond b (numbered_steps (n + 1) qs) (n ∷ numbered_steps (n + 1) qs)) e

    by_one : is_d q.1 ≡ false → is_empty q.1 ≡ false → numbered_steps n (q ∷ qs) ≡ n ∷ numbered_steps (n + 1) qs
    by_one d e = by_step d ∙ ap (λ b. cond b (numbered_steps (n + 1) qs) (n ∷ numbered_steps (n + 1) qs)) e

  counted : (n : ℕ) (k : ℕ) → n + (k + 1) < 2 ^ 64 → min (n + 1) (2 ^ 64 - 1) ≡ n + 1
  counted n k h = omega arith

  module _ (T : Standing) where
    abbrev time : ℕ → Option (Date × ℕ)
    time i = observed_at S.daylight m.zone T i

    abbrev Timed : List Event → List ℕ → Type 0
    Timed es ns = map (λ e. Some e.observed) (records es) ≡ take (length (records es)) (map time ns)

    one_timed : (n : ℕ) (e : Entry) (es : List Event) (ns : List ℕ) → time n ≡ Some e.observed → Timed es ns → Some e.observed ∷ map (λ x. Some x.observed) (records es) ≡ take (length (e ∷ records es)) (map time (n ∷ ns))
    one_timed n e es ns h more = ap (λ o. o ∷ map (λ x. Some x.observed) (records es)) (sym h) ∙ ap (λ l. time n ∷ l) more

    abbrev Started : Reached → List Piece → Type 0
    Started p [] = Unit {0}
    Started p (q ∷ qs) = is_d q.1 ≡ true → 0 < p.steps

    abbrev Good : Reached → List Piece → Type 0
    Good p qs = (code : List ℕ) → p.code ≡ Some code → SameTime T p.terms → p.steps + length qs < 2 ^ 64 → Started p qs → Timed (comes S m p (own_items E qs)) (numbered_steps p.steps qs)

    begun-anyway : (p : Reached) (qs : List Piece) → 0 < p.steps → Started p qs
    begun-anyway p [] some = tt
    begun-anyway p (q ∷ qs) some = λ d. some

    timed_way : (p : Reached) (q : Piece) (qs : List Piece) (code : List ℕ) → p.code ≡ Some code → SameTime T p.terms → p.steps + length (q ∷ qs) < 2 ^ 64 → Started p (q ∷ qs)
        → Way p q → ((r : Reached) → Good r qs) → Timed (comes S m p (own_items E (q ∷ qs))) (numbered_steps p.steps (q ∷ qs))
    timed_way p q qs code has same few started (stopped r e) ih =
        subst (λ t. Timed (comes_by S m (of_line q) (own_items E qs) t) (numbered_steps p.steps (q ∷ qs))) (sym e) refl
    timed_way p q qs code has same few started (set d t e a) ih =
        let some = started d in
        let stays : SameTime p.terms t = among_steps_lem S.today S.daylight m.zone q.1 p.terms t (ap (λ s. after_item S.today S.daylight m.zone s q.1 p.terms) (sym (among p.steps some)) ∙ a) in
        let more = ih (with_terms p t) code has (same_on T p.terms t same stays) (omega arith) (begun-anyway (with_terms p t) qs some) in
        subst (λ r. Timed (comes_by S m (of_line q) (own_items E qs) r) (numbered_steps p.steps (q ∷ qs))) (sym e)
        (subst (λ ns. Timed (comes S m (with_terms p t) (own_items E qs)) ns) (sym (by_d p.steps q qs d)) more)
    timed_way p q qs code has same few started (empty d n e) ih =
        let next = next_step p p.begun in
        let one = counted p.steps (length qs) (omega arith) in
        let more = ih next code has same (omega arith) (begun-anyway next qs (omega arith)) in
        subst (λ r. Timed (comes_by S m (of_line q) (own_items E qs) r) (numbered_steps p.steps (q ∷ qs))) (sym e)
        (subst (λ ns. Timed (comes S m next (own_items E qs)) ns) (ap (λ i. numbered_steps i qs) one ∙ sym (by_none p.steps q qs d n)) more)
    timed_way p q qs code has same few started (given d n x e) ih =
        let next = next_step p true in
        let one = counted p.steps (length qs) (omega arith) in
        let more = ih next code has same (omega arith) (begun-anyway next qs (omega arith)) in
        let at = same_observed S.daylight m.zone T p.terms p.steps same ∙ its_time p code has q d n x e in
        subst (λ r. Timed (comes_by S m (of_line q) (own_items E qs) r) (numbered_steps p.steps (q ∷ qs))) (sym e)
        (subst (λ ns. Some x.observed ∷ map (λ y. Some y.observed) (records (comes S m next (own_items E qs))) ≡ take (length (x ∷ records (comes S m next (own_items E qs)))) (map time ns))
        (ap (λ i. p.steps ∷ numbered_steps i qs) one ∙ sym (by_one p.steps q qs d n))
        (one_timed p.steps x (comes S m next (own_items E qs)) (numbered_steps next.steps qs) at more))

    timed_all : (p : Reached) (qs : List Piece) → Good p qs
    timed_all p [] code has same few started = refl
    timed_all p (q ∷ qs) code has same few started = timed_way p q qs code has same few started (way p code has q) (λ r. timed_all r qs)

  timed_lem : (p : Reached) (code : List ℕ) (q : Piece) (qs : List Piece) → p.code ≡ Some code → is_d q.1 ≡ false → p.steps + length (q ∷ qs) < 2 ^ 64
      → map (λ e. Some e.observed) (step_records S m p (q ∷ qs)) ≡ take (length (step_records S m p (q ∷ qs))) (map (λ i. observed_at S.daylight m.zone p.terms i) (numbered_steps p.steps (q ∷ qs)))
  timed_lem p code q qs has d few = timed_all p.terms p (q ∷ qs) code has (record { groups = refl; relative = refl; interval = refl }) few (λ t. let no : true ≡ false = sym t ∙ d in cc)

  -- where nothing is refused
  abbrev Whole : Reached → List Piece → Type 0
  Whole p qs = (code : List ℕ) → p.code ≡ Some code → p.steps + length qs < 2 ^ 64 → refusals (comes S m p (own_items E qs)) ≡ [] → length (step_records S m p qs) ≡ length (numbered_steps p.steps qs)

  abbrev Fair : List Event → List ℕ → Type 0
  Fair es ns = refusals es ≡ [] → length (records es) ≡ length ns

  whole_way : (p : Reached) (q : Piece) (qs : List Piece) (code : List ℕ) → p.code ≡ Some code → p.steps + length (q ∷ qs) < 2 ^ 64
      → Way p q → ((r : Reached) → Whole r qs) → Fair (comes S m p (own_items E (q ∷ qs))) (numbered_steps p.steps (q ∷ qs))
  whole_way p q qs code has few (stopped r e) ih =
      subst (λ t. Fair (comes_by S m (of_line q) (own_items E qs) t) (numbered_steps p.steps (q ∷ qs))) (sym e) (λ none. let one = ap length none in absurd (omega arith))
  whole_way p q qs code has few (set d t e a) ih =
      subst (λ r. Fair (comes_by S m (of_line q) (own_items E qs) r) (numbered_steps p.steps (q ∷ qs))) (sym e)
      (subst (λ ns. Fair (comes S m (with_terms p t) (own_items E qs)) ns) (sym (by_d p.steps q qs d)) (ih (with_terms p t) code has (omega arith)))
  whole_way p q qs code has few (empty d n e) ih =
      let one = counted p.steps (length qs) (omega arith) in
      subst (λ r. Fair (comes_by S m (of_line q) (own_items E qs) r) (numbered_steps p.steps (q ∷ qs))) (sym e)
      (subst (λ ns. Fair (comes S m (next_step p p.begun) (own_items E qs)) ns) (ap (λ i. numbered_steps i qs) one ∙ sym (by_none p.steps q qs d n)) (ih (next_step p p.begun) code has (omega arith)))
  whole_way p q qs code has few (given d n x e) ih =
      let one = counted p.steps (length qs) (omega arith) in
      let more = ih (next_step p true) code has (omega arith) in
      subst (λ r. Fair (comes_by S m (of_line q) (own_items E qs) r) (numbered_steps p.steps (q ∷ qs))) (sym e)
      (λ none. ap suc (more none) ∙ ap length (ap (λ i. p.steps ∷ numbered_steps i qs) one ∙ sym (by_one p.steps q qs d n)))

  whole_all : (p : Reached) (qs : List Piece) → Whole p qs
  whole_all p [] code has few = λ none. refl
  whole_all p (q ∷ qs) code has few = whole_way p q qs code has few (way p code has q) (λ r. whole_all r qs)

pub steps_timed : StepsTimed
steps_timed = record {
  timed = λ S m p code q qs is has d few. timed_lem S m is p code q qs has d few;
  each = λ S m p code qs is has few. whole_all S m is p qs code has few;
}
