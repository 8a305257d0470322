-- A line break in a .A or .E message is worth a slash.
use Rattle.std.proofs.Common.{◌≡◌, ℕ, ◌+◌, Bool, true, false, cond, List, [], ◌∷◌, ◌++◌, drop, Some, None, Ok, Err, Option, Result, sym, refl, ap, ◌∙◌, subst}
use Rattle.std.specs.List.{flat_map, AllByRecursion}
use Rattle.std.proofs.lemmas.Bool.{true≢false}
use Rattle.items.specs.Items.{message_items}
use Rattle.merging.specs.Headers.{continued_items, header_items}
use Rattle.merging.specs.Merging.{Sided}
use Rattle.reader.specs.Kinds.{kind_of, is_continuation, readable}
use Rattle.reader.specs.Lines.{Piece}
use Rattle.reader.specs.declared.kind.Form.{Form}
use Rattle.reader.specs.declared.kind.Form.TheVariants.{A, B, E}
use Rattle.reader.specs.declared.kind.LineKind.{LineKind}
use Rattle.reader.specs.declared.kind.LineKind.TheVariants.{Opening, Continuation, End, Dotted, Other}
use Rattle.record.specs.Entries.{Entry}
use Rattle.refusals.specs.declared.Fault.{Fault}
use Rattle.refusals.specs.declared.MessageRefusal.TheVariants as why
use Rattle.refusals.specs.declared.Refusal.TheVariants.{Message}
use Rattle.terms.specs.Standing.{Standing}
use Rattle.events.specs.Events.{Event, fault, refused, records}
use Rattle.events.specs.Room.{refusals}
use Rattle.daylight.specs.Settings.{Setting}
use Rattle.messages.specs.Models.{Common, Reached, fresh}
use Rattle.messages.specs.Turns.{Turned, turn}
use Rattle.logging.specs.Follow.{place_of, logs, turn_then, follow}
use Rattle.logging.specs.Own.{own_items}
use Rattle.logging.specs.Walks.{comes}
use Rattle.openings.specs.Openings.{Opened, opened}
use Rattle.stages.specs.Stages.{Stage, outside, header, onto, reads, refuses, is_table, opens_to, begins, continues_as, continues, in_body, by_kind, came, within}
use Rattle.shef.specs.Texts.{is_opening}
use Rattle.laws.specs.Breaks.{LineBreaks}
use Rattle.laws.specs.Outside.{NoOpening}
use Rattle.laws.specs.Readings.{continuations}
use Rattle.laws.proofs.Ending.{none_logged}
use Rattle.laws.proofs.Naming.{form_kept}
use Rattle.laws.proofs.Runs.{not_none}

-- the same records, where nothing is refused
abbrev Alike : List Event → List Event → Type 0
Alike es fs = refusals es ≡ [] → records es ≡ records fs

-- items in two parts
module _ (S : Setting) (m : Common) (k : Reached → List Event) where
  turn_parts : (place : ℕ) (t : Turned) (a b : Reached → List Event) → ((q : Reached) → a q ≡ b q) → turn_then place t a ≡ turn_then place t b
  turn_parts place (Err r) a b h = refl
  turn_parts place (Ok t) a b h = ap (λ es. turn_then place (Ok t) (λ _. es)) (h t.0)

  in_parts : (xs ys : List Sided) (p : Reached) → follow S m p (xs ++ ys) k ≡ follow S m p xs (λ q. follow S m q ys k)
  in_parts [] ys p = refl
  in_parts (x ∷ xs) ys p = turn_parts (place_of x) (turn S m p x) (λ q. follow S m q (xs ++ ys) k) (λ q. follow S m q xs (λ r. follow S m r ys k)) (in_parts xs ys)

-- items, and two things that may follow them
module _ (S : Setting) (m : Common) (k l : Reached → List Event) (then : (q : Reached) → Alike (k q) (l q)) where
  logs_alike : (place : ℕ) (o : Option Entry) (es fs : List Event) → Alike es fs → Alike (logs place o es) (logs place o fs)
  logs_alike place None es fs h = h
  logs_alike place (Some e) es fs h = λ none. ap (λ rs. e ∷ rs) (h none)

  turn_alike : (place : ℕ) (t : Turned) (a b : Reached → List Event) → ((q : Reached) → Alike (a q) (b q)) → Alike (turn_then place t a) (turn_then place t b)
  turn_alike place (Err r) a b h = λ none. absurd (not_none none)
  turn_alike place (Ok t) a b h = logs_alike place t.1 (a t.0) (b t.0) (h t.0)

  follow_alike : (xs : List Sided) (p : Reached) → Alike (follow S m p xs k) (follow S m p xs l)
  follow_alike [] p = then p
  follow_alike (x ∷ xs) p = turn_alike (place_of x) (turn S m p x) (λ q. follow S m q xs k) (λ q. follow S m q xs l) (follow_alike xs)

own_parts : (f : Form) (qs rs : List Piece) → own_items f (qs ++ rs) ≡ own_items f qs ++ own_items f rs
own_parts A [] rs = refl
own_parts A (q ∷ qs) rs = ap (λ xs. own_items A (q ∷ []) ++ xs) (own_parts A qs rs)
own_parts B [] rs = refl
own_parts B (q ∷ qs) rs = ap (λ xs. own_items B (q ∷ []) ++ xs) (own_parts B qs rs)
own_parts E [] rs = refl
own_parts E (q ∷ qs) rs = ap (λ xs. own_items E (q ∷ []) ++ xs) (own_parts E qs rs)

module _ (S : Setting) (m : Common) (flat : is_table m.form ≡ false) where
  abbrev rest : List Piece → Reached → List Event
  rest ls q = comes S m q (own_items m.form (flat_map continued_items (continuations ls)))

  module _ (e : ℕ) (t : Standing) (l : Piece) (ls : List Piece) (hs : AllByRecursion NoOpening ls) (ih : (q : Reached) (n : ℕ) (items : List Piece) → Alike (within S e (header m t q n items) ls) (rest ls q)) where
    abbrev K : Stage → List Event
    K τ = within S e τ ls

    module _ (p : Reached) (n : ℕ) (items : List Piece) where
      abbrev rest_by : Bool → List Event
      rest_by b = comes S m p (own_items m.form (flat_map continued_items (cond b (l ∷ continuations ls) [])))

      goes_on : Alike (follow S m p (own_items m.form (continued_items l)) (λ q. K (header m t q (n + 1) (items ++ continued_items l)))) (rest_by true)
      goes_on none =
          let xs = own_items m.form (continued_items l) in
          let ys = own_items m.form (flat_map continued_items (continuations ls)) in
          follow_alike S m (λ q. K (header m t q (n + 1) (items ++ continued_items l))) (rest ls) (λ q. ih q (n + 1) (items ++ continued_items l)) xs p none
          ∙ sym (ap records (ap (λ zs. comes S m p zs) (own_parts m.form (continued_items l) (flat_map continued_items (continuations ls))) ∙ in_parts S m (λ _. []) xs ys p))

      continued : (g : Form) (w : Bool) → Alike (came S (continues m t p n items g w l) K) (rest_by true)
      unfolding continues
      continued g w =
          let bad = refuses (fault (Message why.Unreadable) l.0) in
          let wrong = refuses (fault (Message why.Continuation) l.0) in
          let good = reads m p (own_items m.form (continued_items l)) (λ q. header m t q (n + 1) (items ++ continued_items l)) in
          elim (readable l.1) as (λ b. Alike (came S (cond b (cond (continues_as m n g w l.1) good wrong) bad) K) (rest_by true)) [
            | true ↦ elim (continues_as m n g w l.1) as (λ b. Alike (came S (cond b good wrong) K) (rest_by true)) [ true ↦ goes_on | false ↦ λ none. absurd (not_none none) ]
            | false ↦ λ none. absurd (not_none none)
          ]

      left_alike : (k : LineKind) → Alike (came S (cond (is_table m.form) (in_body m t items l k) (onto outside)) K) []
      left_alike k none = ap (λ b. records (came S (cond b (in_body m t items l k) (onto outside)) K)) flat ∙ none_logged S e ls hs

      line_alike : (k : LineKind) → is_opening k ≡ false → Alike (came S (by_kind S (header m t p n items) l k) K) (rest_by (is_continuation k))
      line_alike (Opening g w) h = absurd (true≢false h)
      line_alike (Continuation g w) h = continued g w
      line_alike End h = left_alike End
      line_alike Dotted h = left_alike Dotted
      line_alike Other h = left_alike Other

  ends_alike : (es : List Event) → Alike (cond (is_table m.form) es []) []
  ends_alike es none = ap (λ b. records (cond b es [])) flat

  lines_alike : (e : ℕ) (t : Standing) (ls : List Piece) → AllByRecursion NoOpening ls → (q : Reached) (n : ℕ) (items : List Piece) → Alike (within S e (header m t q n items) ls) (rest ls q)
  lines_alike e t [] hs q n items = ends_alike (refused (Message why.Unfinished) e ∷ [])
  lines_alike e t (l ∷ ls) hs q n items = line_alike e t l ls hs.1 (lines_alike e t ls hs.1) q n items (kind_of l.1) hs.0

-- an opening
module _ (S : Setting) (e : ℕ) (f : Form) (v : Bool) (l : Piece) (ls : List Piece) (hs : AllByRecursion NoOpening ls) (flat : is_table f ≡ false) (o : Opened) (is : opened S.today f v l ≡ Ok o) where
  abbrev items : List Piece
  items = message_items (l.0 + o.start) (drop o.start l.1)

  abbrev all_items : List Piece
  all_items = header_items items (continuations ls)

  opens_alike : Alike (came S (opens_to f l (Ok o)) (λ σ. within S e σ ls)) (comes S o.common (fresh o.terms) (own_items f all_items))
  opens_alike =
      let form-is = form_kept f v l S.today o is in
      let k : Reached → List Event = λ p. within S e (header o.common o.terms p 0 items) ls in
      let behind = flat_map continued_items (continuations ls) in
      let even = ap is_table form-is ∙ flat in
      subst (λ g. Alike (follow S o.common (fresh o.terms) (own_items g items) k) (comes S o.common (fresh o.terms) (own_items g all_items))) form-is
      (λ none.
      follow_alike S o.common k (rest S o.common even ls) (λ q. lines_alike S o.common even e o.terms ls hs q 0 items) (own_items o.common.form items) (fresh o.terms) none
      ∙ sym (ap records (ap (λ zs. comes S o.common (fresh o.terms) zs) (own_parts o.common.form items behind) ∙ in_parts S o.common (λ _. []) (own_items o.common.form items) (own_items o.common.form behind) (fresh o.terms))))

  begins_alike : Alike (came S (begins S f v l) (λ σ. within S e σ ls)) (comes S o.common (fresh o.terms) (own_items f all_items))
  unfolding begins
  begins_alike =
      let to : Result Opened Fault → List Event = λ r. came S (opens_to f l r) (λ σ. within S e σ ls) in
      elim (readable l.1) as (λ b. Alike (came S (cond b (opens_to f l (opened S.today f v l)) (refuses (fault (Message why.Unreadable) l.0))) (λ σ. within S e σ ls)) (comes S o.common (fresh o.terms) (own_items f all_items))) [
        | true ↦ subst (λ r. Alike (to r) (comes S o.common (fresh o.terms) (own_items f all_items))) (sym is) opens_alike
        | false ↦ λ none. absurd (not_none none)
      ]

pub line_breaks : LineBreaks
line_breaks S e s f v o kind flat hs is none =
    let from : LineKind → List Event = λ k. came S (by_kind S outside s.0 k) (λ σ. within S e σ s.1) in
    ap (λ k. records (from k)) kind ∙ begins_alike S e f v s.0 s.1 hs flat o is (sym (ap (λ k. refusals (from k)) kind) ∙ none)
