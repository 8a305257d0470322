-- What the record of an item carries.
use Rattle.std.proofs.Common.{◌≡◌, ℕ, Bool, true, false, cond, List, is_some, slice_index, Some, None, Ok, Err, Option, Result, sym, refl, ap, ◌∙◌, subst}
use Rattle.std.specs.Option.{ok_or}
use Rattle.calendar.specs.declared.date.Date.{Date}
use Rattle.items.specs.Words.{split_item}
use Rattle.merging.specs.Merging.{Sided, of_header, of_line, is_d}
use Rattle.quantity.specs.Codes.{code_of, number_for}
use Rattle.quantity.specs.Parameters.{with_number, parameter_of}
use Rattle.reader.specs.declared.kind.Form.{Form}
use Rattle.reader.specs.declared.kind.Form.TheVariants.{A, B, E}
use Rattle.record.specs.Entries.{Entry}
use Rattle.record.specs.declared.series.Series.{Series}
use Rattle.record.specs.declared.series.Series.TheVariants.{Single}
use Rattle.refusals.specs.declared.ItemRefusal.{ItemRefusal}
use Rattle.refusals.specs.declared.ItemRefusal.TheVariants.{DItem, Code, NoCodeOrInterval}
use Rattle.terms.specs.Items.{after_item}
use Rattle.terms.specs.Observed.{observed_at}
use Rattle.terms.specs.declared.stage.Stage.{Stage}
use Rattle.terms.specs.declared.stage.Stage.TheVariants.{Free}
use Rattle.values.specs.Reading.{Stated, read_value}
use Rattle.values.specs.declared.reading.ValueFault.{ValueFault}
use Rattle.daylight.specs.Settings.{Setting}
use Rattle.messages.specs.Carrying.{mark_in, begun_after, Carries, RecordOf}
use Rattle.messages.specs.Models.{Common, Reached}
use Rattle.messages.specs.Roles.{Role, code_alone, code_with_value, value_alone, step, role_in, is_plain, Asked, asked_in, item_asked}
use Rattle.messages.specs.Turns.{Turned, silent, is_empty, with_terms, with_code, d_item, code_read, valued, gives, item_of_a, next_step, mark_of_step, step_of_e, stage_of, code_or_step, item_of_e, item_of_header, item_of_body, item_of_line, turn}
use Rattle.messages.specs.Ways.{then_ok}
use Rattle.messages.proofs.First.{chain}
use Rattle.messages.proofs.Sorts.{empty_no_d, by_empty, by_d}

module _ (S : Setting) (m : Common) (p : Reached) where
  abbrev record_of : Series → List ℕ × ℕ → Stated → Date × ℕ → Entry
  record_of mark x y z = record {
    station = m.station;
    observed = z;
    created = p.terms.created;
    code = x.0;
    duration = x.1;
    value = y.0;
    qualifier = y.1;
    revised = m.revised;
    series = mark;
    source = m.source;
  }

  numbered : (code : List ℕ) (n : Option ℕ) (x : List ℕ × ℕ) → with_number code n ≡ Some x → (code ≡ x.0) × (n ≡ Some x.1)
  numbered code None x h = cc
  numbered code (Some n) x h = let same : (code, n) ≡ x = cc in (ap (λ (y : List ℕ × ℕ). y.0) same, ap (λ (y : List ℕ × ℕ). Some y.1) same)

  module _ (a : Asked) (code : List ℕ) (has : a.code ≡ Some code) (mark : Series) (is : mark ≡ mark_in m.form p.begun) (e : Entry) where
    carried_by : (q : Option (List ℕ × ℕ)) (v : Result Stated ValueFault) (o : Option (Date × ℕ))
        → parameter_of code p.terms.variable ≡ q → read_value code p.terms.units a.text ≡ v → observed_at S.daylight m.zone p.terms a.step ≡ o
        → chain q v o (record_of mark) ≡ Ok e → Carries S m p a e
    carried_by None v o hq hv ho h = cc
    carried_by (Some x) (Err f) o hq hv ho h = cc
    carried_by (Some x) (Ok y) None hq hv ho h = cc
    carried_by (Some x) (Ok y) (Some z) hq hv ho h =
        let n = numbered code (number_for (slice_index code 2) p.terms.variable) x hq in
        let same : record_of mark x y z ≡ e = cc in
        subst (Carries S m p a) same (record {
          shares = record { station = refl; source = refl; revised = refl };
          code = has ∙ ap Some n.0;
          duration = ap (λ (c : List ℕ). number_for (slice_index c 2) p.terms.variable) (sym n.0) ∙ n.1;
          says = ap (λ (c : List ℕ). read_value c p.terms.units a.text) (sym n.0) ∙ hv;
          observed = ho;
          created = refl;
          series = is;
        })

    carried : valued S.daylight m p.terms code a.text mark a.step ≡ Ok e → Carries S m p a e
    unfolding valued
    carried = carried_by (parameter_of code p.terms.variable) (read_value code p.terms.units a.text) (observed_at S.daylight m.zone p.terms a.step) refl refl refl

  -- what an item gives, where it asks for o
  pub record Says (o : Option Asked) (t : Turned) : Type 0 where
    pub gives_lem : (q : Reached) (e : Entry) → t ≡ Ok (q, Some e) → (a : Asked) × ((o ≡ Some a) × Carries S m p a e)
    pub silent_lem : (q : Reached) → t ≡ Ok (q, None) → o ≡ None
    pub begun_lem : (q : Reached) (r : Option Entry) → t ≡ Ok (q, r) → q.begun ≡ begun_after m.form p.begun r

  abbrev got : Turned → Option Entry
  got (Ok t) = t.1
  got (Err r) = None

  abbrev so_far : Bool → Turned → Bool
  so_far b (Ok t) = t.0.begun
  so_far b (Err r) = b

  stays : (f : Form) (b : Bool) → b ≡ begun_after f b None
  stays A b = refl
  stays B b = refl
  stays E b = refl

  says_silent : (q : Reached) → q.begun ≡ p.begun → Says None (silent q)
  says_silent q same = record {
    gives_lem = λ r e h. let f = ap got h in cc;
    silent_lem = λ r h. refl;
    begun_lem = λ r o h. ap (so_far false) (sym h) ∙ same ∙ stays m.form p.begun ∙ ap (λ x. begun_after m.form p.begun x) (ap got h);
  }

  says_refused : (o : Option Asked) (r : ItemRefusal) → Says o (Err r)
  says_refused o r = record { gives_lem = λ q e h. cc; silent_lem = λ q h. cc; begun_lem = λ q e h. cc }

  says_result : (a : Asked) (q : Reached) (v : Result Entry ItemRefusal) → ((e : Entry) → v ≡ Ok e → Carries S m p a e) → ((e : Entry) → q.begun ≡ begun_after m.form p.begun (Some e)) → Says (Some a) (gives q v)
  says_result a q (Err r) carry on = says_refused (Some a) r
  says_result a q (Ok e) carry on = record {
    gives_lem = λ r x h. let f = ap got h in (a, (refl, carry x (cc)));
    silent_lem = λ r h. let f = ap got h in cc;
    begun_lem = λ r o h. ap (so_far false) (sym h) ∙ on e ∙ ap (λ x. begun_after m.form p.begun x) (ap got h);
  }

  says_d : (stage : Stage) (item : List ℕ) → Says None (d_item S m p stage item)
  unfolding d_item
  says_d stage item = elim (after_item S.today S.daylight m.zone stage item p.terms) as (λ o. Says None (then_ok (ok_or o DItem) (λ t. silent (with_terms p t)))) [
    | None ↦ says_refused None DItem
    | Some t ↦ says_silent (with_terms p t) refl
  ]

  says_value : (a : Asked) (code : List ℕ) → a.code ≡ Some code → (mark : Series) → mark ≡ mark_in m.form p.begun → (q : Reached) → ((e : Entry) → q.begun ≡ begun_after m.form p.begun (Some e)) → Says (Some a) (gives q (valued S.daylight m p.terms code a.text mark a.step))
  says_value a code has mark is q on = says_result a q (valued S.daylight m p.terms code a.text mark a.step) (λ e. carried a code has mark is e) on

  says_code : (item : List ℕ) → Says None (then_ok (code_read item) (λ code. silent (with_code p (Some code))))
  says_code item = elim (code_of item) as (λ o. Says None (then_ok (ok_or o Code) (λ code. silent (with_code p (Some code))))) [
    | None ↦ says_refused None Code
    | Some code ↦ says_silent (with_code p (Some code)) refl
  ]

  -- by the sort of the item, where it has the role
  abbrev As : Role → List ℕ → Bool → Bool → Turned → Type 0
  As role item d plain t = Says (cond plain (asked_in role p item) None) t

  says_header : (item : List ℕ) → As code_alone item (is_d item) (is_plain item) (item_of_header S m p item)
  unfolding item_of_header
  says_header item = by_empty (As code_alone item) (is_empty item) (is_d item) _ _ _ (empty_no_d item) (says_silent p refl) (says_d Free item) (says_code item)

  module _ (form-is : m.form ≡ A) where
    on_a : (e : Entry) → p.begun ≡ begun_after m.form p.begun (Some e)
    on_a e = ap (λ f. begun_after f p.begun (Some e)) (sym form-is)

    says_pair : (item : List ℕ) (o : Option (List ℕ)) → code_of (split_item item).0 ≡ o
        → As code_with_value item false true (then_ok (ok_or o Code) (λ code. gives p (valued S.daylight m p.terms code (split_item item).1 Single 0)))
    says_pair item None is = says_refused _ Code
    says_pair item (Some code) is =
        says_value (record { code = code_of (split_item item).0; text = (split_item item).1; step = 0 }) code is Single (ap (λ f. mark_in f p.begun) (sym form-is)) p on_a

    says_a : (item : List ℕ) → As code_with_value item (is_d item) (is_plain item) (item_of_a S m p item)
    unfolding item_of_a
    says_a item = by_empty (As code_with_value item) (is_empty item) (is_d item) _ _ _ (empty_no_d item) (says_silent p refl) (says_d Free item) (says_pair item (code_of (split_item item).0) refl)

  module _ (form-is : m.form ≡ B) where
    says_alone : (item : List ℕ) (o : Option (List ℕ)) → p.code ≡ o
        → As value_alone item false true (then_ok (ok_or o NoCodeOrInterval) (λ code. gives (with_code p None) (valued S.daylight m p.terms code item Single 0)))
    says_alone item None is = says_refused _ NoCodeOrInterval
    says_alone item (Some code) is =
        says_value (record { code = p.code; text = item; step = 0 }) code is Single (ap (λ f. mark_in f p.begun) (sym form-is)) (with_code p None)
        (λ e. ap (λ f. begun_after f p.begun (Some e)) (sym form-is))

    says_body : (item : List ℕ) → As value_alone item (is_d item) (is_plain item) (item_of_body S m p item)
    unfolding item_of_body
    says_body item = by_empty (As value_alone item) (is_empty item) (is_d item) _ _ _ (empty_no_d item) (says_silent (with_code p None) refl) (says_d Free item) (says_alone item p.code refl)

  module _ (form-is : m.form ≡ E) where
    says_step : (item code : List ℕ) → p.code ≡ Some code → (b : Bool)
        → As step item false true (cond b (gives (next_step p true) (valued S.daylight m p.terms code item (mark_of_step p.begun) p.steps)) (Err NoCodeOrInterval))
    says_step item code is true =
        says_value (record { code = p.code; text = item; step = p.steps }) code is (mark_of_step p.begun) (ap (λ f. mark_in f p.begun) (sym form-is)) (next_step p true)
        (λ e. ap (λ f. begun_after f p.begun (Some e)) (sym form-is))
    says_step item code is false = says_refused _ NoCodeOrInterval

    says_e : (o : Option (List ℕ)) → p.code ≡ o → (item : List ℕ)
        → As (role_in E o) item (is_d item) (is_plain item) (cond (is_d item) (d_item S m p (stage_of p.steps) item) (code_or_step S m p o item))
    unfolding step_of_e
    says_e None is item = by_d (As code_alone item) (is_empty item) (is_d item) _ _ _ (empty_no_d item) (says_silent p refl) (says_d (stage_of p.steps) item) (says_code item)
    says_e (Some code) is item =
        by_d (As step item) (is_empty item) (is_d item) _ _ _ (empty_no_d item) (says_silent (next_step p p.begun) refl) (says_d (stage_of p.steps) item)
        (says_step item code is (is_some p.terms.interval))

  says_line : (f : Form) → m.form ≡ f → (item : List ℕ) → As (role_in f p.code) item (is_d item) (is_plain item) (item_of_line f S m p item)
  unfolding item_of_e
  says_line A is item = says_a is item
  says_line B is item = says_body is item
  says_line E is item = says_e is p.code refl item

  pub says : (x : Sided) → Says (item_asked m p x) (turn S m p x)
  says (of_header x) = says_header x.1
  says (of_line x) = says_line m.form refl x.1

pub record_given : (S : Setting) (m : Common) (p q : Reached) (x : Sided) (e : Entry) → turn S m p x ≡ Ok (q, Some e) → RecordOf S m p x e
record_given S m p q x e = (says S m p x).gives_lem q e

pub none_asked : (S : Setting) (m : Common) (p q : Reached) (x : Sided) → turn S m p x ≡ Ok (q, None) → item_asked m p x ≡ None
none_asked S m p q x = (says S m p x).silent_lem q

pub series_begun : (S : Setting) (m : Common) (p q : Reached) (x : Sided) (o : Option Entry) → turn S m p x ≡ Ok (q, o) → q.begun ≡ begun_after m.form p.begun o
series_begun S m p q x o = (says S m p x).begun_lem q o
