-- What a line comes to, from what it does.
use Rattle.std.proofs.Common.{◌≡◌, ℕ, zero, suc, ◌+◌, Bool, true, false, cond, ◌&&◌, eqb, List, [], ◌∷◌, ◌++◌, take, drop, is_some, Some, None, Ok, Err, Option, sym, refl, ap, ◌∙◌, subst, ⊎_elim, append_assoc, append-nil, arith, MatchOption, MatchResult, Result}
use Rattle.std.proofs.lemmas.Bool.{cond-true, cond-false, cases_Bool, true≢false, eq-eqb, ne_eqb}
use Rattle.std.specs.Option.{option_map}
use Rattle.reader.specs.Kinds.{continuation_of, kind_of}
use Rattle.reader.specs.declared.kind.Continuation.{Continuation as Number}
use Rattle.std.specs.List.{flat_map}
use Rattle.merging.specs.Headers.{continued_items, header_items}
use Rattle.items.specs.Items.{message_items, body_items, is_blank}
use Rattle.merging.specs.Merging.{Sided, filled, from_header}
use Rattle.reader.specs.Kinds.{readable}
use Rattle.reader.specs.Lines.{Piece}
use denote.Enum.Bare.{sameb}
use Rattle.reader.specs.contracts.kind.Form.{the_type}
use Rattle.reader.specs.declared.kind.Form.{Form}
use Rattle.reader.specs.declared.kind.Form.TheVariants.{A, B, E}
use Rattle.record.specs.Entries.{Entry}
use Rattle.record.specs.Stations.{station_of}
use Rattle.refusals.specs.declared.Fault.{Fault}
use Rattle.refusals.specs.declared.MessageRefusal.TheVariants as why
use Rattle.refusals.specs.declared.Refusal.{Refusal}
use Rattle.refusals.specs.declared.Refusal.TheVariants.{Message}
use Rattle.sink.specs.Logs.{Log}
use Rattle.terms.specs.Standing.{Standing}
use Rattle.events.specs.Events.{Event, fault, refused}
use Rattle.events.specs.Passing.{Comes, Passed, StopsAt, Stopped}
use Rattle.items.specs.Words.{first_word}
use Rattle.reader.specs.declared.kind.LineKind.{LineKind}
use Rattle.reader.specs.declared.kind.LineKind.TheVariants.{Dotted}
use Rattle.events.proofs.Passes.{nothing, same, pulled, pulled_stopped, renamed, renamed_stopped}
use Rattle.daylight.specs.Settings.{Setting}
use Rattle.messages.specs.Models.{Common, Reached, fresh}
use Rattle.logging.specs.Follow.{follow}
use Rattle.logging.specs.Own.{own_items}
use Rattle.openings.proofs.Saying.{Says}
use Rattle.openings.specs.Openings.{Opened, field, opened}
use Rattle.stages.specs.Stages.{Stage, outside, behind, body, header, Moved, onto, reads, refuses, came, opens_to, begins, continues_as, continues, of_station, line_of, body_line, same_form, same_bool, follows, by_kind, next, is_table}

stops_says : {K : Type 0} (x : Fault) (m : Log Entry) (rest : K → List Event) → Says x → ((k : K) → rest k ≡ refused x.refusal x.place ∷ []) → StopsAt x.refusal x.place m rest
stops_says {K} x m rest says h =
    let Q : Refusal → Type 0 = λ r. ((k : K) → rest k ≡ refused r x.place ∷ []) → StopsAt r x.place m rest in
    subst Q (sym says.1) (λ g. g) h

module _ (S : Setting) {l : Log Entry} where
  -- a line is refused
  pub line_refused : (x : Fault) {X : Moved} → X ≡ refuses x → Says x → Stopped x l l (came S X)
  line_refused x {X} e says = record { rest = came S X; passed = nothing (came S X); stops = stops_says x l (came S X) says (λ k. ap (λ y. came S y k) e) }

  -- a line leads on and has no items
  pub line_onto : (σ : Stage) {X : Moved} → X ≡ onto σ → Passed l l (came S X) (λ k. k σ)
  line_onto σ {X} e = same (nothing (came S X)) (λ k. ap (λ y. came S y k) e)

  -- a line's items are read
  pub line_read : (m : Common) (p q : Reached) (ps : List Sided) (to : Reached → Stage) (σ : Stage) {X : Moved} {n : Log Entry}
      → X ≡ reads m p ps to → Passed l n (follow S m p ps) (λ k. k q) → to q ≡ σ → Passed l n (came S X) (λ k. k σ)
  line_read m p q ps to σ {X} {n} e P eσ =
      same (renamed (λ k. ap (λ y. came S y k) e) (pulled {J = Reached → List Event} (λ (k : Stage → List Event) (r : Reached). k (to r)) P)) (λ k. ap k eσ)

  pub line_stopped : (m : Common) (p : Reached) (ps : List Sided) (to : Reached → Stage) {X : Moved} {n : Log Entry} {x : Fault}
      → X ≡ reads m p ps to → Stopped x l n (follow S m p ps) → Stopped x l n (came S X)
  line_stopped m p ps to e s = renamed_stopped (λ k. ap (λ y. came S y k) e) (pulled_stopped {J = Reached → List Event} (λ (k : Stage → List Event) (r : Reached). k (to r)) s)

-- an opening
module _ (S : Setting) (f : Form) (v : Bool) (l : Piece) where
  pub begins_unreadable : readable l.1 ≡ false → begins S f v l ≡ refuses (fault (Message why.Unreadable) l.0)
  unfolding begins
  begins_unreadable e = cond-false (readable l.1) _ _ e

  pub begins_refused : (x : Fault) → readable l.1 ≡ true → Err x ≡ opened S.today f v l → begins S f v l ≡ refuses x
  unfolding begins
  begins_refused x e o = cond-true (readable l.1) _ _ e ∙ ap (opens_to f l) (sym o)

  pub begins_reads : (o : Opened) (items : List Piece) (p : Reached) (g : Form) → readable l.1 ≡ true → Ok o ≡ opened S.today f v l → items ≡ message_items (l.0 + o.start) (drop o.start l.1) → p ≡ fresh o.terms → g ≡ f
      → begins S f v l ≡ reads o.common p (own_items g items) (λ q. header o.common o.terms q 0 items)
  unfolding begins
  begins_reads o items p g e is at start form =
      cond-true (readable l.1) _ _ e ∙ ap (opens_to f l) (sym is)
      ∙ ap (λ qs. reads o.common (fresh o.terms) (own_items f qs) (λ q. header o.common o.terms q 0 qs)) (sym at)
      ∙ ap (λ r. reads o.common r (own_items f items) (λ q. header o.common o.terms q 0 items)) (sym start)
      ∙ ap (λ h. reads o.common p (own_items h items) (λ q. header o.common o.terms q 0 items)) (sym form)

-- a continuation
module _ (m : Common) (t : Standing) (p : Reached) (n : ℕ) (hs : List Piece) (f : Form) (v : Bool) (l : Piece) where
  pub continues_unreadable : readable l.1 ≡ false → continues m t p n hs f v l ≡ refuses (fault (Message why.Unreadable) l.0)
  unfolding continues
  continues_unreadable e = cond-false (readable l.1) _ _ e

  pub continues-not : readable l.1 ≡ true → continues_as m n f v l.1 ≡ false → continues m t p n hs f v l ≡ refuses (fault (Message why.Continuation) l.0)
  unfolding continues
  continues-not e c = cond-true (readable l.1) _ _ e ∙ cond-false (continues_as m n f v l.1) _ _ c

  pub continues_reads : (items : List Piece) → readable l.1 ≡ true → continues_as m n f v l.1 ≡ true → items ≡ continued_items l
      → continues m t p n hs f v l ≡ reads m p (own_items m.form items) (λ q. header m t q (n + 1) (hs ++ items))
  unfolding continues
  continues_reads items e c at =
      cond-true (readable l.1) _ _ e ∙ cond-true (continues_as m n f v l.1) _ _ c ∙ ap (λ qs. reads m p (own_items m.form qs) (λ q. header m t q (n + 1) (hs ++ qs))) (sym at)

-- a body line
module _ (m : Common) (t : Standing) (hs : List Piece) (l : Piece) where
  pub body_unreadable : readable l.1 ≡ false → body_line m t hs l ≡ refuses (fault (Message why.Unreadable) l.0)
  unfolding body_line
  body_unreadable e = cond-false (readable l.1) _ _ e

  pub body_blank : readable l.1 ≡ true → is_blank l.1 ≡ true → body_line m t hs l ≡ onto (body m t hs)
  unfolding body_line
  body_blank e b = cond-true (readable l.1) _ _ e ∙ cond-true (is_blank l.1) _ _ b

  pub body_refused : (x : Fault) → readable l.1 ≡ true → is_blank l.1 ≡ false → Err x ≡ field why.Station station_of l 0 → body_line m t hs l ≡ refuses x
  unfolding body_line
  body_refused x e b f = cond-true (readable l.1) _ _ e ∙ cond-false (is_blank l.1) _ _ b ∙ ap (line_of m t hs l) (sym f)

  pub body_reads : (n : List ℕ × ℕ) (p : Reached) (ps : List Sided) → readable l.1 ≡ true → is_blank l.1 ≡ false → Ok n ≡ field why.Station station_of l 0 → p ≡ fresh t
      → ps ≡ from_header (filled hs) (body_items (l.0 + n.1) (drop n.1 l.1))
      → body_line m t hs l ≡ reads (of_station m n.0) p ps (λ _. body m t hs)
  unfolding body_line
  body_reads n p ps e b f start at =
      cond-true (readable l.1) _ _ e ∙ cond-false (is_blank l.1) _ _ b ∙ ap (line_of m t hs l) (sym f)
      ∙ ap (λ r. reads (of_station m n.0) r (from_header (filled hs) (body_items (l.0 + n.1) (drop n.1 l.1))) (λ _. body m t hs)) (sym start)
      ∙ ap (λ qs. reads (of_station m n.0) p qs (λ _. body m t hs)) (sym at)

-- the header grows by the line that comes next
pub header_none : (items : List Piece) (ls : List Piece) → header_items items (take 0 ls) ≡ items
header_none items ls = append-nil items

joined_push : (ls : List Piece) (l : Piece) → flat_map continued_items (ls ++ l ∷ []) ≡ flat_map continued_items ls ++ continued_items l
joined_push [] l = append-nil (continued_items l)
joined_push (x ∷ xs) l = ap (λ q. continued_items x ++ q) (joined_push xs l) ∙ sym (append_assoc (continued_items x) (flat_map continued_items xs) (continued_items l))

take_next : (n : ℕ) (ls : List Piece) (l : Piece) (rest : List Piece) → drop n ls ≡ l ∷ rest → (take (n + 1) ls ≡ take n ls ++ l ∷ []) × (drop (n + 1) ls ≡ rest)
take_next zero [] l rest e = let z : ◌≡◌ {A = ℕ} 0 1 = cc in absurd (omega arith)
take_next zero (x ∷ ls) l rest e = let a : x ≡ l = cc in let b : ls ≡ rest = cc in (ap (λ (y : Piece). y ∷ []) a, b)
take_next (suc n) [] l rest e = let z : ◌≡◌ {A = ℕ} 0 1 = cc in absurd (omega arith)
take_next (suc n) (x ∷ ls) l rest e =
    let more = take_next n ls l rest e in
    let s : suc n + 1 ≡ suc (n + 1) = omega arith in
    (ap (λ k. take k (x ∷ ls)) s ∙ ap (λ (ys : List Piece). x ∷ ys) more.0, ap (λ k. drop k (x ∷ ls)) s ∙ more.1)

pub header_more : (items : List Piece) (n : ℕ) (ls : List Piece) (l : Piece) (rest : List Piece) → drop n ls ≡ l ∷ rest → header_items items (take (n + 1) ls) ≡ header_items items (take n ls) ++ continued_items l
header_more items n ls l rest e =
    ap (header_items items) (take_next n ls l rest e).0 ∙ ap (λ q. items ++ q) (joined_push (take n ls) l) ∙ sym (append_assoc items (flat_map continued_items (take n ls)) (continued_items l))

pub tied_more : (n : ℕ) (ls : List Piece) (l : Piece) (rest : List Piece) → drop n ls ≡ l ∷ rest → drop (n + 1) ls ≡ rest
tied_more n ls l rest e = (take_next n ls l rest e).1

-- a row of the table: a line of one kind in one stage
pub at_row : (S : Setting) (l : Piece) {σ τ : Stage} {k : LineKind} → k ≡ kind_of l.1 → σ ≡ τ → next S σ l ≡ by_kind S τ l k
at_row S l {σ} {τ} {k} ek eσ = ap (by_kind S σ l) (sym ek) ∙ ap (λ x. by_kind S x l k) eσ

-- behind a header a line with another first dot ends a message, and is refused where it is a table's
pub left_dotted : {Q : Type 0} (S : Setting) (h : Log Entry) (l : Piece) (m : Common) (hs : List Piece) (t : Standing) (σ : Stage) (r : Result Q Fault) {X : Moved}
    → X ≡ behind m t hs l Dotted
    → MatchResult r (λ _. (is_table m.form ≡ false) × (σ ≡ outside)) (λ f. (is_table m.form ≡ true) × (f ≡ fault (Message why.Unfinished) l.0))
    → Comes r h h (came S X) (λ _ k. k σ)
left_dotted S h l m hs t σ (Ok _) row w = line_onto S σ (row ∙ cond-false (is_table m.form) _ _ w.0 ∙ ap onto (sym w.1))
left_dotted S h l m hs t σ (Err f) row w =
    line_refused S f (row ∙ cond-true (is_table m.form) _ _ w.0 ∙ ap refuses (sym w.1)) (why.Unfinished, ap (λ x. x.refusal) w.1)

-- a header is left at an .END, a table's or not
pub left_at_end : (S : Setting) {h : Log Entry} (σ : Stage) (b : Bool) {X : Moved} → X ≡ cond b (onto outside) (onto outside) → σ ≡ outside → Passed h h (came S X) (λ k. k σ)
left_at_end S σ b row e = line_onto S σ (row ∙ ⊎_elim (λ t. cond-true b _ _ t) (λ f. cond-false b _ _ f) (cases_Bool b) ∙ ap onto (sym e))

-- a line has a word exactly where it is not blank
pub word_not_blank : {X : Type 0} (f : X → ℕ × (List ℕ × List ℕ)) (o : Option X) (bs : List ℕ) → option_map f o ≡ first_word bs → is_some o ≡ true → is_blank bs ≡ false
word_not_blank f None bs e s = absurd (true≢false (sym s))
word_not_blank f (Some x) bs e s = ⊎_elim (λ t. let z = e ∙ cond-true (is_blank bs) _ _ t in let y : ◌≡◌ {A = ℕ} 0 1 = cc in absurd (omega arith)) (λ b. b) (cases_Bool (is_blank bs))

pub no_word_blank : {X : Type 0} (f : X → ℕ × (List ℕ × List ℕ)) (o : Option X) (bs : List ℕ) → option_map f o ≡ first_word bs → is_some o ≡ false → is_blank bs ≡ true
no_word_blank f (Some x) bs e s = absurd (true≢false s)
no_word_blank f None bs e s = ⊎_elim (λ b. b) (λ t. let z = e ∙ cond-false (is_blank bs) _ _ t in let y : ◌≡◌ {A = ℕ} 0 1 = cc in absurd (omega arith)) (cases_Bool (is_blank bs))

-- forms are compared case by case
pub forms_alike : (a b : Form) → sameb the_type a b ≡ same_form a b
forms_alike A A = refl
forms_alike A B = refl
forms_alike A E = refl
forms_alike B A = refl
forms_alike B B = refl
forms_alike B E = refl
forms_alike E A = refl
forms_alike E B = refl
forms_alike E E = refl

-- the letters and the number of a continuation
pub and_no : (a b : Bool) → (a && (b && false)) ≡ false
and_no true true = refl
and_no true false = refl
and_no false b = refl

and-false : (a : Bool) → (a && false) ≡ false
and-false true = refl
and-false false = refl

pub same_bool_lem : (a b : Bool) → a ≡ b → same_bool a b ≡ true
same_bool_lem true b e = sym e
same_bool_lem false true e = absurd (true≢false (sym e))
same_bool_lem false false e = refl

pub other_bool : (a b : Bool) → (a ≡ b → ⊥) → same_bool a b ≡ false
other_bool true true h = absurd (h refl)
other_bool true false h = refl
other_bool false true h = refl
other_bool false false h = absurd (h refl)

pub none_cases : {A : Type 0} {o : Option A} (P : Type 0) (Q : A → Type 0) → o ≡ None → P → MatchOption o P Q
none_cases {A} {o} P Q e p = subst (λ (x : Option A). MatchOption x P Q) (sym e) p

all_three : (a b d : Bool) → a ≡ true → b ≡ true → d ≡ true → (a && (b && d)) ≡ true
all_three a b d ea eb ed = ap (λ x. x && (b && d)) ea ∙ ap (λ x. x && d) eb ∙ ed

module _ (m : Common) (n : ℕ) (f : Form) (v : Bool) (line : List ℕ) where
  abbrev letters : Option Number → Bool
  letters o = same_form m.form f && (same_bool m.revised v && follows n o)

  pub continues-none : None ≡ continuation_of line → continues_as m n f v line ≡ false
  unfolding continues_as
  continues-none e = ap letters (sym e) ∙ and_no (same_form m.form f) (same_bool m.revised v)

  module _ (here : Number) (is : Some here ≡ continuation_of line) where
    pub continues_here : same_form m.form f ≡ true → m.revised ≡ v → here.number ≡ n + 1 → continues_as m n f v line ≡ true
    unfolding continues_as
    continues_here a b d = ap letters (sym is) ∙ all_three (same_form m.form f) (same_bool m.revised v) (eqb here.number (n + 1)) a (same_bool_lem m.revised v b) (eq-eqb here.number (n + 1) d)

    pub other_form : same_form m.form f ≡ false → continues_as m n f v line ≡ false
    unfolding continues_as
    other_form a = ap letters (sym is) ∙ ap (λ x. x && (same_bool m.revised v && eqb here.number (n + 1))) a

    pub other_revision : (m.revised ≡ v → ⊥) → continues_as m n f v line ≡ false
    unfolding continues_as
    other_revision b =
        ap letters (sym is) ∙ ap (λ x. same_form m.form f && (x && eqb here.number (n + 1))) (other_bool m.revised v b) ∙ and-false (same_form m.form f)

    pub other_number : (here.number ≡ n + 1 → ⊥) → continues_as m n f v line ≡ false
    unfolding continues_as
    other_number d =
        ap letters (sym is) ∙ ap (λ x. same_form m.form f && (same_bool m.revised v && x)) (ne_eqb here.number (n + 1) d) ∙ and_no (same_form m.form f) (same_bool m.revised v)
