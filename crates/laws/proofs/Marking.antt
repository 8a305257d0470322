-- The marks of a message's records.
use Rattle.std.proofs.Common.{◌≡◌, ℕ, ◌+◌, Bool, true, false, cond, List, [], ◌∷◌, ◌++◌, map, drop, length, Ok, Err, Result, sym, refl, ap, ◌∙◌, subst}
use Rattle.std.specs.List.{AllByRecursion}
use Rattle.std.proofs.lemmas.Bool.{true≢false}
use Rattle.items.specs.Items.{message_items, body_items, is_blank}
use Rattle.merging.specs.Headers.{continued_items}
use Rattle.merging.specs.Merging.{filled, from_header}
use Rattle.reader.specs.Kinds.{kind_of, readable}
use Rattle.reader.specs.Lines.{Piece}
use Rattle.reader.specs.declared.kind.Form.{Form}
use Rattle.reader.specs.declared.kind.Form.TheVariants.{A, B, E}
use Rattle.reader.specs.declared.kind.LineKind.{LineKind}
use Rattle.reader.specs.declared.kind.LineKind.TheVariants.{Opening, Continuation, End, Dotted, Other}
use Rattle.record.specs.Stations.{station_of}
use Rattle.refusals.specs.declared.Fault.{Fault}
use Rattle.refusals.specs.declared.MessageRefusal.TheVariants as why
use Rattle.refusals.specs.declared.Refusal.TheVariants.{Message}
use Rattle.terms.specs.Standing.{Standing}
use Rattle.events.specs.Events.{Event, fault, refused, records}
use Rattle.daylight.specs.Settings.{Setting}
use Rattle.messages.specs.Models.{Common, Reached, fresh}
use Rattle.logging.specs.Own.{own_items}
use Rattle.logging.specs.Walks.{marks_in, marks_of}
use Rattle.logging.proofs.Walking.{none_marked, marked_on}
use Rattle.openings.specs.Openings.{Opened, field, opened}
use Rattle.stages.specs.Stages.{Stage, outside, skipping, header, body, onto, reads, refuses, is_table, opens_to, begins, continues_as, continues, of_station, line_of, body_line, in_body, by_kind, came, within}
use Rattle.shef.specs.Texts.{is_opening, Stretch, stretch}
use Rattle.laws.specs.Outside.{NoOpening}
use Rattle.laws.proofs.Ending.{none_logged}
use Rattle.laws.proofs.Naming.{form_kept}

abbrev Marks : Form → Bool → List Event → Type 0
Marks f b es = marks_of es ≡ marks_in f b (length (records es))

-- a table's records have one mark
any_marks : (f : Form) → is_table f ≡ true → (b c : Bool) (es : List Event) → Marks f b es → Marks f c es
any_marks A h b c es is = absurd (true≢false (sym h))
any_marks B h b c es is = is
any_marks E h b c es is = absurd (true≢false (sym h))

no_marks : (f : Form) (b : Bool) (es : List Event) → records es ≡ [] → Marks f b es
no_marks f b es none = ap (λ rs. map (λ e. e.series) rs) none ∙ none_marked f b ∙ sym (ap (λ rs. marks_in f b (length rs)) none)

-- the marks of what comes from a stage on
abbrev MarkedFrom : Stage → List Event → Type 0
MarkedFrom outside es = records es ≡ []
MarkedFrom skipping es = Unit {0}
MarkedFrom (header m t p n hs) es = Marks m.form p.begun es
MarkedFrom (body m t hs) es = is_table m.form ≡ true → (b : Bool) → Marks m.form b es

module _ (S : Setting) (e : ℕ) (l : Piece) (ls : List Piece) (none : records (within S e outside (l ∷ ls)) ≡ []) (ih : (σ : Stage) → MarkedFrom σ (within S e σ ls)) where
  abbrev K : Stage → List Event
  K τ = within S e τ ls

  module _ (m : Common) (t : Standing) (hs : List Piece) where
    module _ (is : is_table m.form ≡ true) (b : Bool) where
      station_marks : (r : Result (List ℕ × ℕ) Fault) → Marks m.form b (came S (line_of m t hs l r) K)
      station_marks (Err x) = none_marked m.form b
      station_marks (Ok n) =
          let xs = from_header (filled hs) (body_items (l.0 + n.1) (drop n.1 l.1)) in
          let es = came S (line_of m t hs l (Ok n)) K in
          any_marks m.form is false b es (marked_on S (of_station m n.0) (λ _. K (body m t hs)) (λ q. ih (body m t hs) is q.begun) (fresh t) xs)

      line_marks : Marks m.form b (came S (body_line m t hs l) K)
      unfolding body_line
      line_marks =
          let bad = refuses (fault (Message why.Unreadable) l.0) in
          let named = line_of m t hs l (field why.Station station_of l 0) in
          elim (readable l.1) as (λ c. Marks m.form b (came S (cond c (cond (is_blank l.1) (onto (body m t hs)) named) bad) K)) [
            | true ↦ elim (is_blank l.1) as (λ c. Marks m.form b (came S (cond c (onto (body m t hs)) named) K)) [ true ↦ ih (body m t hs) is b | false ↦ station_marks (field why.Station station_of l 0) ]
            | false ↦ none_marked m.form b
          ]

      in_body_marks : (k : LineKind) → Marks m.form b (came S (in_body m t hs l k) K)
      in_body_marks (Opening g w) = none_marked m.form b
      in_body_marks (Continuation g w) = none_marked m.form b
      in_body_marks End = no_marks m.form b (K outside) (ih outside)
      in_body_marks Dotted = none_marked m.form b
      in_body_marks Other = line_marks

    module _ (p : Reached) (n : ℕ) where
      continued_marks : (g : Form) (w : Bool) → Marks m.form p.begun (came S (continues m t p n hs g w l) K)
      unfolding continues
      continued_marks g w =
          let bad = refuses (fault (Message why.Unreadable) l.0) in
          let wrong = refuses (fault (Message why.Continuation) l.0) in
          let to : Reached → Stage = λ q. header m t q (n + 1) (hs ++ continued_items l) in
          let good = reads m p (own_items m.form (continued_items l)) to in
          elim (readable l.1) as (λ b. Marks m.form p.begun (came S (cond b (cond (continues_as m n g w l.1) good wrong) bad) K)) [
            | true ↦ elim (continues_as m n g w l.1) as (λ b. Marks m.form p.begun (came S (cond b good wrong) K)) [
              | true ↦ marked_on S m (λ q. K (to q)) (λ q. ih (to q)) p (own_items m.form (continued_items l))
              | false ↦ none_marked m.form p.begun
            ]
            | false ↦ none_marked m.form p.begun
          ]

      left_marks : (b : Bool) → is_table m.form ≡ b → (k : LineKind) → Marks m.form p.begun (came S (cond b (in_body m t hs l k) (onto outside)) K)
      left_marks true is k = in_body_marks is p.begun k
      left_marks false is k = no_marks m.form p.begun (K outside) (ih outside)

      header_marks : (k : LineKind) → is_opening k ≡ false → Marks m.form p.begun (came S (by_kind S (header m t p n hs) l k) K)
      header_marks (Opening g w) h = absurd (true≢false h)
      header_marks (Continuation g w) h = continued_marks g w
      header_marks End h = left_marks (is_table m.form) refl End
      header_marks Dotted h = left_marks (is_table m.form) refl Dotted
      header_marks Other h = left_marks (is_table m.form) refl Other

    body_marks : (k : LineKind) → is_opening k ≡ false → is_table m.form ≡ true → (b : Bool) → Marks m.form b (came S (by_kind S (body m t hs) l k) K)
    body_marks (Opening g w) h is b = absurd (true≢false h)
    body_marks (Continuation g w) h is b = none_marked m.form b
    body_marks End h is b = in_body_marks is b End
    body_marks Dotted h is b = in_body_marks is b Dotted
    body_marks Other h is b = in_body_marks is b Other

  one_more : (σ : Stage) → NoOpening l → MarkedFrom σ (within S e σ (l ∷ ls))
  one_more outside h = none
  one_more skipping h = tt
  one_more (header m t p n hs) h = header_marks m t hs p n (kind_of l.1) h
  one_more (body m t hs) h = body_marks m t hs (kind_of l.1) h

at_end : (S : Setting) (e : ℕ) (σ : Stage) → MarkedFrom σ (within S e σ [])
at_end S e outside = refl
at_end S e skipping = tt
at_end S e (header m t p n hs) =
    elim (is_table m.form) as (λ b. Marks m.form p.begun (cond b (refused (Message why.Unfinished) e ∷ []) [])) [ true ↦ none_marked m.form p.begun | false ↦ none_marked m.form p.begun ]
at_end S e (body m t hs) = λ is b. none_marked m.form b

lines_marked : (S : Setting) (e : ℕ) (ls : List Piece) → AllByRecursion NoOpening ls → (σ : Stage) → MarkedFrom σ (within S e σ ls)
lines_marked S e [] hs σ = at_end S e σ
lines_marked S e (l ∷ ls) hs σ = one_more S e l ls (none_logged S e (l ∷ ls) hs) (lines_marked S e ls hs.1) σ hs.0

-- an opening
module _ (S : Setting) (e : ℕ) (f : Form) (v : Bool) (l : Piece) (ls : List Piece) (hs : AllByRecursion NoOpening ls) where
  opens_marks : (r : Result Opened Fault) → ((o : Opened) → r ≡ Ok o → o.common.form ≡ f) → Marks f false (came S (opens_to f l r) (λ σ. within S e σ ls))
  opens_marks (Err x) form-is = none_marked f false
  opens_marks (Ok o) form-is =
      let items = message_items (l.0 + o.start) (drop o.start l.1) in
      let to : Reached → Stage = λ p. header o.common o.terms p 0 items in
      let is = marked_on S o.common (λ p. within S e (to p) ls) (λ p. lines_marked S e ls hs (to p)) (fresh o.terms) (own_items f items) in
      subst (λ g. Marks g false (came S (opens_to f l (Ok o)) (λ σ. within S e σ ls))) (form-is o refl) is

  begins_marks : Marks f false (came S (begins S f v l) (λ σ. within S e σ ls))
  unfolding begins
  begins_marks =
      let r = opened S.today f v l in
      elim (readable l.1) as (λ b. Marks f false (came S (cond b (opens_to f l r) (refuses (fault (Message why.Unreadable) l.0))) (λ σ. within S e σ ls))) [
        | true ↦ opens_marks r (form_kept f v l S.today)
        | false ↦ none_marked f false
      ]

pub message_marked : (S : Setting) (e : ℕ) (s : Stretch) (f : Form) (v : Bool)
    → kind_of s.0.1 ≡ Opening f v → AllByRecursion NoOpening s.1 → marks_of (stretch S e s) ≡ marks_in f false (length (records (stretch S e s)))
message_marked S e s f v kind hs =
    subst (λ k. Marks f false (came S (by_kind S outside s.0 k) (λ σ. within S e σ s.1))) (sym kind) (begins_marks S e f v s.0 s.1 hs)
