-- How many records lines, messages and texts come to.
use Rattle.std.proofs.Common.{◌≡◌, ℕ, ◌+◌, ◌-◌, ◌≤◌, Bool, true, false, cond, List, [], ◌∷◌, ◌++◌, length, drop, None, Ok, Err, Result, sym, refl, ap, ◌∙◌, subst, arith}
use Rattle.std.specs.List.{flat_map, AllByRecursion}
use Rattle.std.proofs.lemmas.Bool.{true≢false}
use Rattle.calendar.specs.Messages.{message_date}
use Rattle.calendar.specs.declared.date.Date.{Date as Day}
use Rattle.merging.specs.Headers.{continued_items}
use Rattle.items.specs.Items.{message_items, body_items, is_blank}
use Rattle.merging.specs.Merging.{Sided, filled, from_header}
use Rattle.merging.proofs.Merging.{merged_keeps}
use Rattle.reader.specs.Kinds.{kind_of, letters_of, is_continuation, readable}
use Rattle.reader.specs.Lines.{Piece, lines}
use Rattle.reader.specs.declared.kind.Form.{Form}
use Rattle.reader.specs.declared.kind.Form.TheVariants.{A, B, E}
use Rattle.reader.specs.declared.kind.LineKind.{LineKind}
use Rattle.reader.specs.declared.kind.LineKind.TheVariants.{Opening, Continuation, End, Dotted, Other}
use Rattle.record.specs.Entries.{Entry}
use Rattle.record.specs.Stations.{station_of}
use Rattle.refusals.specs.declared.Fault.{Fault}
use Rattle.refusals.specs.declared.MessageRefusal.TheVariants as why
use Rattle.refusals.specs.declared.Refusal.TheVariants.{Message, Item}
use Rattle.refusals.specs.declared.Refusal.{Refusal}
use Rattle.terms.specs.Standing.{Standing}
use Rattle.events.specs.Events.{Event, fault, logged, refused, records}
use Rattle.events.specs.Passing.{logged_all}
use Rattle.events.specs.Room.{refusals}
use Rattle.daylight.specs.Settings.{Setting}
use Rattle.messages.specs.Models.{Common, Reached, fresh}
use Rattle.messages.specs.Roles.{is_plain}
use Rattle.messages.specs.Ways.{then_ok}
use Rattle.logging.specs.Follow.{place_of, follow}
use Rattle.logging.specs.Own.{own_items}
use Rattle.openings.specs.Openings.{Opened, field, opened}
use Rattle.stages.specs.Stages.{Stage, outside, skipping, header, body, onto, reads, refuses, is_table, opens_to, begins, continues_as, continues, of_station, line_of, body_line, in_body, by_kind, came, closing, within}
use Rattle.shef.specs.Texts.{is_opening, Stretch, on_front, cut, end_of, stretch, stretches, events}
use Rattle.laws.specs.Outside.{NoOpening}
use Rattle.laws.specs.Readings.{plain_items, behind_fields, behind_station, line_readings, continuations, behind_header, is_end, body_readings, message_readings, opened_readings, stretch_readings, readings_of, RecordsAreReadings}
use Rattle.laws.proofs.Counting.{due, due_at, plain_of, plain_front, Counted, all, upto, counted, own_fits, table_fits, of_message, of_line_lem}
use Rattle.laws.proofs.Idle.{before}
use Rattle.laws.proofs.Runs.{not_none, refusals-behind, refusals-append}

abbrev count : List Event → ℕ
count es = length (records es)

count_behind : (ys : List (ℕ × Entry)) (es : List Event) → count (logged_all ys ++ es) ≡ length ys + count es
count_behind [] es = omega arith
count_behind (y ∷ ys) es = omega (arith, count_behind ys es)

count_append : (es fs : List Event) → count (es ++ fs) ≡ count es + count fs
count_append [] fs = omega arith
count_append (logged p e ∷ es) fs = omega (arith, count_append es fs)
count_append (refused r p ∷ es) fs = count_append es fs

none_left : (fs gs : List Fault) → fs ++ gs ≡ [] → (fs ≡ []) × (gs ≡ [])
none_left [] gs e = (refl, e)
none_left (f ∷ fs) gs e = absurd (not_none e)

-- no more records than n, and as many where nothing is refused
record Tally (n : ℕ) (es : List Event) : Type 0 where
  most : count es ≤ n
  exact : refusals es ≡ [] → count es ≡ n

tally_refused : (n : ℕ) (r : Refusal) (p : ℕ) → Tally n (refused r p ∷ [])
tally_refused n r p = record { most = omega arith; exact = λ none. absurd (not_none none) }

tally_as : {n j : ℕ} {es : List Event} → Tally n es → n ≡ j → Tally j es
tally_as {n} {j} {es} t e = subst (λ i. Tally i es) e t

tally_append : (n j : ℕ) (es fs : List Event) → Tally n es → Tally j fs → Tally (n + j) (es ++ fs)
tally_append n j es fs s t =
    let both = count_append es fs in
    record {
      most = omega (arith, both, s.most, t.most);
      exact = λ none. let parts = none_left (refusals es) (refusals fs) (sym (refusals-append es fs) ∙ none) in omega (arith, both, s.exact parts.0, t.exact parts.1);
    }

-- items, and what follows them
tally_follow : (S : Setting) (m : Common) (p : Reached) (xs : List Sided) (k : Reached → List Event) (n : ℕ) → Counted S m p xs
    → ((q : Reached) → due_at m q ≡ due_at m p - plain_of xs → Tally n (k q)) → Tally (plain_of xs - due_at m p + n) (follow S m p xs k)
tally_follow S m p xs k n (all ys q is many left) h =
    let whole = ap count (is k) ∙ count_behind ys (k q) in
    record {
      most = omega (arith, whole, many, (h q left).most);
      exact = λ none. omega (arith, whole, many, (h q left).exact (sym (refusals-behind ys (k q)) ∙ sym (ap refusals (is k)) ∙ none));
    }
tally_follow S m p xs k n (upto read x more ys r parts is many) h =
    let end = refused (Item r) (place_of x) ∷ [] in
    let whole = ap count (is k) ∙ count_behind ys end in
    let part = ap plain_of parts in
    let le = plain_front read (x ∷ more) in
    record { most = omega (arith, whole, part, le, many); exact = λ none. absurd (not_none (sym (refusals-behind ys end) ∙ sym (ap refusals (is k)) ∙ none)) }

-- the items of a message
plain_own : (f : Form) → is_table f ≡ false → (qs : List Piece) → plain_of (own_items f qs) ≡ plain_items qs
plain_own A h [] = refl
plain_own A h (q ∷ qs) = ap (λ n. cond (is_plain q.1) 1 0 + n) (plain_own A h qs)
plain_own B h qs = absurd (true≢false h)
plain_own E h [] = refl
plain_own E h (q ∷ qs) = ap (λ n. cond (is_plain q.1) 1 0 + n) (plain_own E h qs)

pub plain_header : (qs : List Piece) → plain_of (own_items B qs) ≡ 0
plain_header [] = refl
plain_header (q ∷ qs) = plain_header qs

plain-append : (qs rs : List Piece) → plain_items (qs ++ rs) ≡ plain_items qs + plain_items rs
plain-append [] rs = omega arith
plain-append (q ∷ qs) rs = omega (arith, plain-append qs rs)

-- what a header has yet to come to, where d of its plain items are no readings
abbrev headed : Form → ℕ → List Piece → ℕ
headed A d ls = plain_items (flat_map continued_items (continuations ls)) - d
headed B d ls = body_readings (behind_header ls)
headed E d ls = plain_items (flat_map continued_items (continuations ls)) - d

abbrev headed_by : Form → ℕ → Bool → Piece → List Piece → ℕ
headed_by A d b l ls = plain_items (flat_map continued_items (cond b (l ∷ continuations ls) [])) - d
headed_by B d b l ls = body_readings (cond b (behind_header ls) (l ∷ ls))
headed_by E d b l ls = plain_items (flat_map continued_items (cond b (l ∷ continuations ls) [])) - d

headed_by_lem : (f : Form) (d : ℕ) (l : Piece) (ls : List Piece) → headed f d (l ∷ ls) ≡ headed_by f d (is_continuation (kind_of l.1)) l ls
headed_by_lem A d l ls = refl
headed_by_lem B d l ls = refl
headed_by_lem E d l ls = refl

headed_none : (f : Form) (d : ℕ) → headed f d [] ≡ 0
headed_none A d = omega arith
headed_none B d = refl
headed_none E d = omega arith

headed_more : (f : Form) (d j : ℕ) (l : Piece) (ls : List Piece) → j ≡ d - plain_of (own_items f (continued_items l)) → plain_of (own_items f (continued_items l)) - d + headed f j ls ≡ headed_by f d true l ls
headed_more A d j l ls e = omega (arith, plain_own A refl (continued_items l), plain-append (continued_items l) (flat_map continued_items (continuations ls)))
headed_more B d j l ls e = omega (arith, plain_header (continued_items l))
headed_more E d j l ls e = omega (arith, plain_own E refl (continued_items l), plain-append (continued_items l) (flat_map continued_items (continuations ls)))

headed_opens : (f : Form) (qs : List Piece) (j : ℕ) (ls : List Piece) → j ≡ due f None - plain_of (own_items f qs) → plain_of (own_items f qs) - due f None + headed f j ls ≡ message_readings f qs ls
headed_opens A qs j ls e = omega (arith, plain_own A refl qs, plain-append qs (flat_map continued_items (continuations ls)))
headed_opens B qs j ls e = omega (arith, plain_header qs)
headed_opens E qs j ls e = omega (arith, plain_own E refl qs, plain-append qs (flat_map continued_items (continuations ls)))

-- what lines have yet to come to
abbrev to_log : Stage → List Piece → ℕ
to_log outside ls = 0
to_log skipping ls = 0
to_log (header m t p n hs) ls = headed m.form (due_at m p) ls
to_log (body m t hs) ls = body_readings ls

abbrev Sound : Stage → Type 0
Sound outside = Unit {0}
Sound skipping = Unit {0}
Sound (header m t p n hs) = Unit {0}
Sound (body m t hs) = is_table m.form ≡ true

table_due : (f : Form) → is_table f ≡ true → due f None ≡ 0
table_due A h = absurd (true≢false (sym h))
table_due B h = refl
table_due E h = absurd (true≢false (sym h))

-- a body line
module _ (S : Setting) (m : Common) (t : Standing) (hs : List Piece) (is : is_table m.form ≡ true) (l : Piece) (k : Stage → List Event) (n : ℕ) (next : Tally n (k (body m t hs))) where
  station_counts : (r : Result (List ℕ × ℕ) Fault) → Tally (plain_items (behind_station l r) + n) (came S (line_of m t hs l r) k)
  station_counts (Err x) = tally_refused (0 + n) x.refusal x.place
  station_counts (Ok at) =
      let c = of_station m at.0 in
      let items = body_items (l.0 + at.1) (drop at.1 l.1) in
      let xs = from_header (filled hs) items in
      let own : plain_of xs ≡ plain_items items = ap plain_items (merged_keeps (filled hs) items).0 in
      let d = table_due m.form is in
      tally_as (tally_follow S c (fresh t) xs (λ _. k (body m t hs)) n (counted S c (fresh t) xs (table_fits m.form is xs)) (λ q left. next)) (omega (arith, own, d))

  line_counts : Tally (line_readings l + n) (came S (body_line m t hs l) k)
  unfolding body_line
  line_counts =
      let bad = refuses (fault (Message why.Unreadable) l.0) in
      let named = line_of m t hs l (field why.Station station_of l 0) in
      let many = plain_items (behind_station l (field why.Station station_of l 0)) in
      elim (readable l.1) as (λ b. Tally (line_readings l + n) (came S (cond b (cond (is_blank l.1) (onto (body m t hs)) named) bad) k)) [
        | true ↦ elim (is_blank l.1) as (λ b. Tally (cond b 0 many + n) (came S (cond b (onto (body m t hs)) named) k)) [ true ↦ tally_as next (omega arith) | false ↦ station_counts (field why.Station station_of l 0) ]
        | false ↦ tally_refused (line_readings l + n) (Message why.Unreadable) l.0
      ]

-- a line that is no opening
module _ (S : Setting) (e : ℕ) (l : Piece) (ls : List Piece) (ih : (σ : Stage) → Sound σ → Tally (to_log σ ls) (within S e σ ls)) where
  abbrev K : Stage → List Event
  K τ = within S e τ ls

  in_body_lem : (m : Common) (t : Standing) (hs : List Piece) (k : LineKind) → is_table m.form ≡ true → kind_of l.1 ≡ k → Tally (body_readings (l ∷ ls)) (came S (in_body m t hs l k) K)
  in_body_lem m t hs (Opening f v) is here = tally_refused (body_readings (l ∷ ls)) (Message why.Unfinished) l.0
  in_body_lem m t hs (Continuation f v) is here = tally_refused (body_readings (l ∷ ls)) (Message why.Unfinished) l.0
  in_body_lem m t hs End is here = tally_as (ih outside tt) (sym (ap (λ k. cond (is_end k) 0 (line_readings l + body_readings ls)) here))
  in_body_lem m t hs Dotted is here = tally_refused (body_readings (l ∷ ls)) (Message why.Unfinished) l.0
  in_body_lem m t hs Other is here =
      tally_as (line_counts S m t hs is l K (body_readings ls) (ih (body m t hs) is)) (sym (ap (λ k. cond (is_end k) 0 (line_readings l + body_readings ls)) here))

  module _ (m : Common) (t : Standing) (p : Reached) (n : ℕ) (hs : List Piece) where
    abbrev goes : Reached → Stage
    goes q = header m t q (n + 1) (hs ++ continued_items l)

    -- a continuation
    abbrev Goes : List Event → Type 0
    Goes es = Tally (headed_by m.form (due_at m p) true l ls) es

    goes_on : Goes (follow S m p (own_items m.form (continued_items l)) (λ q. K (goes q)))
    goes_on =
        let xs = own_items m.form (continued_items l) in
        let left = due_at m p - plain_of xs in
        tally_as
        (tally_follow S m p xs (λ q. K (goes q)) (headed m.form left ls) (counted S m p xs (own_fits m.form (continued_items l))) (λ q is. tally_as (ih (goes q) tt) (ap (λ d. headed m.form d ls) is)))
        (headed_more m.form (due_at m p) left l ls refl)

    continued : (f : Form) (v : Bool) → Goes (came S (continues m t p n hs f v l) K)
    unfolding continues
    continued f v =
        let bad = refuses (fault (Message why.Unreadable) l.0) in
        let wrong = refuses (fault (Message why.Continuation) l.0) in
        let good = reads m p (own_items m.form (continued_items l)) goes in
        let many = headed_by m.form (due_at m p) true l ls in
        elim (readable l.1) as (λ b. Goes (came S (cond b (cond (continues_as m n f v l.1) good wrong) bad) K)) [
          | true ↦ elim (continues_as m n f v l.1) as (λ b. Goes (came S (cond b good wrong) K)) [ true ↦ goes_on | false ↦ tally_refused many (Message why.Continuation) l.0 ]
          | false ↦ tally_refused many (Message why.Unreadable) l.0
        ]

    -- any other line leaves the header
    left_other : (f : Form) (d : ℕ) → is_table f ≡ false → 0 ≡ headed_by f d false l ls
    left_other A d h = omega arith
    left_other B d h = absurd (true≢false h)
    left_other E d h = omega arith

    left_table : (f : Form) (d : ℕ) → is_table f ≡ true → body_readings (l ∷ ls) ≡ headed_by f d false l ls
    left_table A d h = absurd (true≢false (sym h))
    left_table B d h = refl
    left_table E d h = absurd (true≢false (sym h))

    left_by : (b : Bool) (k : LineKind) → is_table m.form ≡ b → kind_of l.1 ≡ k → Tally (headed_by m.form (due_at m p) false l ls) (came S (cond b (in_body m t hs l k) (onto outside)) K)
    left_by true k is here = tally_as (in_body_lem m t hs k is here) (left_table m.form (due_at m p) is)
    left_by false k is here = tally_as (ih outside tt) (left_other m.form (due_at m p) is)

    in_header_lem : (k : LineKind) → is_opening k ≡ false → kind_of l.1 ≡ k → Tally (headed_by m.form (due_at m p) (is_continuation k) l ls) (came S (by_kind S (header m t p n hs) l k) K)
    in_header_lem (Opening f v) h here = absurd (true≢false h)
    in_header_lem (Continuation f v) h here = continued f v
    in_header_lem End h here = left_by (is_table m.form) End refl here
    in_header_lem Dotted h here = left_by (is_table m.form) Dotted refl here
    in_header_lem Other h here = left_by (is_table m.form) Other refl here

  in_outside : (k : LineKind) → is_opening k ≡ false → Tally 0 (came S (by_kind S outside l k) K)
  in_outside (Opening f v) h = absurd (true≢false h)
  in_outside (Continuation f v) h = tally_refused 0 (Message why.Continuation) l.0
  in_outside End h = ih outside tt
  in_outside Dotted h = ih outside tt
  in_outside Other h = ih outside tt

  in_skipping : (k : LineKind) → is_opening k ≡ false → Tally 0 (came S (by_kind S skipping l k) K)
  in_skipping (Opening f v) h = absurd (true≢false h)
  in_skipping (Continuation f v) h = ih skipping tt
  in_skipping End h = ih skipping tt
  in_skipping Dotted h = ih skipping tt
  in_skipping Other h = ih skipping tt

  in_table : (m : Common) (t : Standing) (hs : List Piece) (k : LineKind) → is_opening k ≡ false → is_table m.form ≡ true → kind_of l.1 ≡ k → Tally (body_readings (l ∷ ls)) (came S (by_kind S (body m t hs) l k) K)
  in_table m t hs (Opening f v) h is here = absurd (true≢false h)
  in_table m t hs (Continuation f v) h is here = in_body_lem m t hs (Continuation f v) is here
  in_table m t hs End h is here = in_body_lem m t hs End is here
  in_table m t hs Dotted h is here = in_body_lem m t hs Dotted is here
  in_table m t hs Other h is here = in_body_lem m t hs Other is here

  one_more : (σ : Stage) → Sound σ → NoOpening l → Tally (to_log σ (l ∷ ls)) (within S e σ (l ∷ ls))
  one_more outside s h = in_outside (kind_of l.1) h
  one_more skipping s h = in_skipping (kind_of l.1) h
  one_more (header m t p n hs) s h = tally_as (in_header_lem m t p n hs (kind_of l.1) h refl) (sym (headed_by_lem m.form (due_at m p) l ls))
  one_more (body m t hs) s h = in_table m t hs (kind_of l.1) h s refl

no_events : Tally 0 []
no_events = record { most = omega arith; exact = λ none. refl }

at_end : (σ : Stage) (e : ℕ) → Tally (to_log σ []) (closing σ e)
at_end outside e = no_events
at_end skipping e = no_events
at_end (header m t p n hs) e =
    tally_as (elim (is_table m.form) as (λ b. Tally 0 (cond b (refused (Message why.Unfinished) e ∷ []) [])) [ true ↦ tally_refused 0 (Message why.Unfinished) e | false ↦ no_events ]) (sym (headed_none m.form (due_at m p)))
at_end (body m t hs) e = tally_refused 0 (Message why.Unfinished) e

lines_count : (S : Setting) (e : ℕ) (ls : List Piece) → AllByRecursion NoOpening ls → (σ : Stage) → Sound σ → Tally (to_log σ ls) (within S e σ ls)
lines_count S e [] hs σ s = at_end σ e
lines_count S e (l ∷ ls) hs σ s = one_more S e l ls (lines_count S e ls hs.1) σ s hs.0

-- an opening keeps its form
abbrev pub Keeps : Form → Result Opened Fault → Type 0
Keeps f (Ok o) = o.common.form ≡ f
Keeps f (Err x) = Unit {0}

then_keeps : {X : Type 0} (f : Form) (r : Result X Fault) (g : X → Result Opened Fault) → ((x : X) → Keeps f (g x)) → Keeps f (then_ok r g)
then_keeps f (Ok x) g h = h x
then_keeps f (Err x) g h = tt

pub opened_keeps : (today : Day) (f : Form) (v : Bool) (l : Piece) → Keeps f (opened today f v l)
unfolding opened
opened_keeps today f v l =
    then_keeps f (field why.Station station_of l (letters_of l.1)) _ (λ n. then_keeps f (field why.Date (λ w. message_date w today) l n.1) _ (λ d. refl))

module _ (S : Setting) (e : ℕ) (l : Piece) (ls : List Piece) (hs : AllByRecursion NoOpening ls) where
  opens_counts : (f : Form) (r : Result Opened Fault) → Keeps f r → Tally (message_readings f (behind_fields l r) ls) (came S (opens_to f l r) (λ σ. within S e σ ls))
  opens_counts f (Err x) keeps = tally_refused (message_readings f [] ls) x.refusal x.place
  opens_counts f (Ok o) keeps =
      let m = o.common in
      let items = message_items (l.0 + o.start) (drop o.start l.1) in
      let xs = own_items m.form items in
      let start = fresh o.terms in
      let k : Reached → List Event = λ p. within S e (header m o.terms p 0 items) ls in
      let left = due m.form None - plain_of xs in
      let of-form : Tally (message_readings m.form items ls) (follow S m start xs k) =
      tally_as
      (tally_follow S m start xs k (headed m.form left ls) (counted S m start xs (own_fits m.form items))
      (λ q is. tally_as (lines_count S e ls hs (header m o.terms q 0 items) tt) (ap (λ d. headed m.form d ls) is)))
      (headed_opens m.form items left ls refl) in
      subst (λ g. Tally (message_readings g items ls) (follow S m start (own_items g items) k)) keeps of-form

  begins_counts : (f : Form) (v : Bool) → Tally (message_readings f (behind_fields l (opened S.today f v l)) ls) (came S (begins S f v l) (λ σ. within S e σ ls))
  unfolding begins
  begins_counts f v =
      let r = opened S.today f v l in
      let many = message_readings f (behind_fields l r) ls in
      elim (readable l.1) as (λ b. Tally many (came S (cond b (opens_to f l r) (refuses (fault (Message why.Unreadable) l.0))) (λ σ. within S e σ ls))) [
        | true ↦ opens_counts f r (opened_keeps S.today f v l)
        | false ↦ tally_refused many (Message why.Unreadable) l.0
      ]

  kind_counts : (k : LineKind) → is_opening k ≡ true → Tally (opened_readings S l ls k) (came S (by_kind S outside l k) (λ σ. within S e σ ls))
  kind_counts (Opening f v) h = begins_counts f v
  kind_counts (Continuation f v) h = absurd (true≢false (sym h))
  kind_counts End h = absurd (true≢false (sym h))
  kind_counts Dotted h = absurd (true≢false (sym h))
  kind_counts Other h = absurd (true≢false (sym h))

stretch_counts : (S : Setting) (e : ℕ) (s : Stretch) → is_opening (kind_of s.0.1) ≡ true → AllByRecursion NoOpening s.1 → Tally (stretch_readings S s) (stretch S e s)
stretch_counts S e s h hs = kind_counts S e s.0 s.1 hs (kind_of s.0.1) h

-- the stretches of a text
abbrev pub WellCut : Stretch → Type 0
WellCut s = (is_opening (kind_of s.0.1) ≡ true) × AllByRecursion NoOpening s.1

cut_one : (l : Piece) (b : Bool) (c : List Piece × List Stretch) → is_opening (kind_of l.1) ≡ b → AllByRecursion NoOpening c.0 → AllByRecursion WellCut c.1 → AllByRecursion WellCut (on_front b l c).1
cut_one l true c e h w = ((e, h), w)
cut_one l false c e h w = w

pub well_cut : (ls : List Piece) → AllByRecursion WellCut (cut ls).1
well_cut [] = tt
well_cut (l ∷ ls) = cut_one l (is_opening (kind_of l.1)) (cut ls) refl (before ls) (well_cut ls)

stretches_count : (S : Setting) (e : ℕ) (ss : List Stretch) → AllByRecursion WellCut ss → Tally (readings_of S ss) (stretches S e ss)
stretches_count S e [] w = no_events
stretches_count S e (s ∷ ss) w =
    tally_append (stretch_readings S s) (readings_of S ss) (stretch S (end_of e ss) s) (stretches S e ss) (stretch_counts S (end_of e ss) s w.0.0 w.0.1) (stretches_count S e ss w.1)

text_counts : (S : Setting) (text : List ℕ) → Tally (readings_of S (cut (lines text)).1) (events S text)
text_counts S text =
    let c = cut (lines text) in
    let e = end_of (length text) c.1 in
    tally_as
    (tally_append 0 (readings_of S c.1) (within S e outside c.0) (stretches S (length text) c.1) (lines_count S e c.0 (before (lines text)) outside tt) (stretches_count S (length text) c.1 (well_cut (lines text))))
    (omega arith)

pub records_are_readings : RecordsAreReadings
records_are_readings = record {
  message = of_message;
  line = of_line_lem;
  opening = λ S e s h hs. (stretch_counts S e s h hs).exact;
  whole = λ S text. (text_counts S text).exact;
  at_most = λ S text. (text_counts S text).most;
}
