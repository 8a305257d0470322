-- Where the station, the source and the revision of a message's records come from.
use Rattle.std.proofs.Common.{◌≡◌, ℕ, ◌+◌, Bool, true, false, cond, List, [], ◌∷◌, ◌++◌, drop, length, Some, None, Ok, Err, Option, Result, sym, refl, ap, ◌∙◌, subst, inl, inr}
use Rattle.std.specs.List.{AllByRecursion}
use Rattle.std.proofs.ByRecursion.{All-append, All-weaker}
use Rattle.std.proofs.lemmas.Bool.{true≢false}
use Rattle.calendar.specs.Messages.{message_date}
use Rattle.calendar.specs.declared.date.Date.{Date as Day}
use Rattle.items.specs.Items.{message_items, body_items, is_blank}
use Rattle.merging.specs.Headers.{continued_items}
use Rattle.merging.specs.Merging.{Sided, of_header, of_line, filled, from_header}
use Rattle.reader.specs.Kinds.{kind_of, letters_of, readable}
use Rattle.reader.specs.Lines.{Piece, lines}
use Rattle.reader.specs.declared.kind.Form.{Form}
use Rattle.reader.specs.declared.kind.Form.TheVariants.{A, B, E}
use Rattle.reader.specs.declared.kind.LineKind.{LineKind}
use Rattle.reader.specs.declared.kind.LineKind.TheVariants.{Opening, Continuation, End, Dotted, Other}
use Rattle.record.specs.Entries.{Entry}
use Rattle.record.specs.Stations.{station_of}
use Rattle.refusals.specs.declared.Fault.{Fault}
use Rattle.refusals.specs.declared.MessageRefusal.TheVariants as why
use Rattle.refusals.specs.declared.Refusal.TheVariants.{Message}
use Rattle.terms.specs.Standing.{Standing}
use Rattle.events.specs.Events.{Event, fault, logged, refused, records}
use Rattle.daylight.specs.Settings.{Setting}
use Rattle.messages.specs.Models.{Common, Reached, fresh}
use Rattle.messages.specs.Roles.{Asked, is_plain}
use Rattle.messages.specs.Turns.{Turned, turn}
use Rattle.messages.specs.Ways.{then_ok}
use Rattle.messages.proofs.Carried.{record_given}
use Rattle.logging.specs.Follow.{place_of, logs, turn_then, follow}
use Rattle.logging.specs.Own.{own_items}
use Rattle.openings.specs.Openings.{Opened, field, zone_field, opens_with, opened}
use Rattle.stages.specs.Stages.{Stage, outside, skipping, header, body, onto, reads, refuses, is_table, opens_to, begins, continues_as, continues, of_station, line_of, body_line, in_body, by_kind, came, closing, within}
use Rattle.shef.specs.Texts.{is_opening, Stretch, cut, end_of, stretch, stretches, events}
use Rattle.laws.specs.Origins.{Named, OfMessage, OfOne}
use Rattle.laws.specs.Outside.{NoOpening}
use Rattle.laws.specs.Tables.{Plain}
use Rattle.laws.proofs.Ending.{none_logged}
use Rattle.laws.proofs.Idle.{before}
use Rattle.laws.proofs.Totals.{WellCut, well_cut}

-- what holds of each record that an item gives holds of all
module _ (S : Setting) (m : Common) (P : Entry → Type 0) where
  abbrev Gives : Sided → Type 0
  Gives x = (p q : Reached) (e : Entry) → turn S m p x ≡ Ok (q, Some e) → P e

  module _ (k : Reached → List Event) (then : (q : Reached) → AllByRecursion P (records (k q))) where
    logs_all : (p : Reached) (x : Sided) (q : Reached) (o : Option Entry) (es : List Event) → Gives x → turn S m p x ≡ Ok (q, o) → AllByRecursion P (records es) → AllByRecursion P (records (logs (place_of x) o es))
    logs_all p x q None es g h all = all
    logs_all p x q (Some e) es g h all = (g p q e h, all)

    turn_all : (p : Reached) (x : Sided) (xs : List Sided) (t : Turned) → Gives x → turn S m p x ≡ t → ((q : Reached) → AllByRecursion P (records (follow S m q xs k)))
        → AllByRecursion P (records (turn_then (place_of x) t (λ q. follow S m q xs k)))
    turn_all p x xs (Err r) g h all = tt
    turn_all p x xs (Ok t) g h all = logs_all p x t.0 t.1 (follow S m t.0 xs k) g h (all t.0)

    follow_all : (xs : List Sided) → AllByRecursion Gives xs → (p : Reached) → AllByRecursion P (records (follow S m p xs k))
    follow_all [] g p = then p
    follow_all (x ∷ xs) g p = turn_all p x xs (turn S m p x) g.0 refl (λ q. follow_all xs g.1 q)

  each_gives : ((x : Sided) → Gives x) → (xs : List Sided) → AllByRecursion Gives xs
  each_gives g [] = tt
  each_gives g (x ∷ xs) = (g x, each_gives g xs)

  -- an item of a header gives no record
  none_asked : (b : Bool) (a : Asked) → cond b None None ≡ Some a → ⊥
  none_asked true a h = cc
  none_asked false a h = cc

  header_gives : (x : Piece) → Gives (of_header x)
  header_gives x p q e h = let r = record_given S m p q (of_header x) e h in absurd (none_asked (is_plain x.1) r.0 r.1.0)

  own_give : (f : Form) → (is_table f ≡ false → (x : Sided) → Gives x) → (qs : List Piece) → AllByRecursion Gives (own_items f qs)
  own_give A g [] = tt
  own_give A g (q ∷ qs) = (g refl (of_line q), own_give A g qs)
  own_give B g [] = tt
  own_give B g (q ∷ qs) = (header_gives q, own_give B g qs)
  own_give E g [] = tt
  own_give E g (q ∷ qs) = (g refl (of_line q), own_give E g qs)

pub table_form : (f : Form) → is_table f ≡ true → f ≡ B
table_form A h = absurd (true≢false (sym h))
table_form B h = refl
table_form E h = absurd (true≢false (sym h))

-- a message of the form and the revision, whose opening names it
module _ (f : Form) (v : Bool) (name : List ℕ) where
  abbrev Of : List Piece → Entry → Type 0
  Of ls e = Named f name ls e × (e.revised ≡ v)

  record Fits (m : Common) : Type 0 where
    form : m.form ≡ f
    station : m.station ≡ name
    source : m.source ≡ None
    revised : m.revised ≡ v

  flat : (g : Form) (ls : List Piece) (e : Entry) → is_table g ≡ false → e.station ≡ name → e.source ≡ None → Named g name ls e
  flat A ls e h st so = (st, so)
  flat B ls e h st so = absurd (true≢false h)
  flat E ls e h st so = (st, so)

  more : (g : Form) (l : Piece) (ls : List Piece) (e : Entry) → Named g name ls e → Named g name (l ∷ ls) e
  more A l ls e h = h
  more B l ls e h = (h.0, inr h.1)
  more E l ls e h = h

  abbrev Sound : Stage → Type 0
  Sound outside = Unit {0}
  Sound skipping = Unit {0}
  Sound (header m t p n hs) = Fits m
  Sound (body m t hs) = Fits m × (is_table m.form ≡ true)

  module _ (S : Setting) where
    -- the items of a header
    header_items_give : (m : Common) (ls : List Piece) → Fits m → (qs : List Piece) → AllByRecursion (Gives S m (Of ls)) (own_items m.form qs)
    header_items_give m ls fits qs =
        own_give S m (Of ls) m.form
        (λ h x p q e given. let s = (record_given S m p q x e given).1.1.shares in (flat f ls e (ap is_table (sym fits.form) ∙ h) (s.station ∙ fits.station) (s.source ∙ fits.source), s.revised ∙ fits.revised)) qs

    module _ (e : ℕ) (l : Piece) (ls : List Piece) (ih : (σ : Stage) → Sound σ → AllByRecursion (Of (l ∷ ls)) (records (within S e σ ls))) where
      abbrev K : Stage → List Event
      K τ = within S e τ ls

      abbrev Goes : List Event → Type 0
      Goes es = AllByRecursion (Of (l ∷ ls)) (records es)

      module _ (m : Common) (t : Standing) (hs : List Piece) (fits : Fits m) where
        -- a body line
        module _ (is : is_table m.form ≡ true) (plain : Plain l) where
          line_gives : (n : List ℕ × ℕ) → field why.Station station_of l 0 ≡ Ok n → (x : Sided) → Gives S (of_station m n.0) (Of (l ∷ ls)) x
          line_gives n named x p q r given =
              let s = (record_given S (of_station m n.0) p q x r given).1.1.shares in
              let here : field why.Station station_of l 0 ≡ Ok (r.station, n.1) = named ∙ ap (λ (y : List ℕ). Ok (y, n.1)) (sym s.station) in
              (subst (λ g. Named g name (l ∷ ls) r) (sym (table_form m.form is) ∙ fits.form) (s.source ∙ ap Some fits.station, inl (plain, (n.1, here))), s.revised ∙ fits.revised)

          station_named : (r : Result (List ℕ × ℕ) Fault) → field why.Station station_of l 0 ≡ r → Goes (came S (line_of m t hs l r) K)
          station_named (Err x) named = tt
          station_named (Ok n) named =
              let xs = from_header (filled hs) (body_items (l.0 + n.1) (drop n.1 l.1)) in
              follow_all S (of_station m n.0) (Of (l ∷ ls)) (λ _. K (body m t hs)) (λ _. ih (body m t hs) (fits, is)) xs (each_gives S (of_station m n.0) (Of (l ∷ ls)) (line_gives n named) xs) (fresh t)

          line_named : Goes (came S (body_line m t hs l) K)
          unfolding body_line
          line_named =
              let bad = refuses (fault (Message why.Unreadable) l.0) in
              let named = line_of m t hs l (field why.Station station_of l 0) in
              elim (readable l.1) as (λ b. Goes (came S (cond b (cond (is_blank l.1) (onto (body m t hs)) named) bad) K)) [
                | true ↦ elim (is_blank l.1) as (λ b. Goes (came S (cond b (onto (body m t hs)) named) K)) [ true ↦ ih (body m t hs) (fits, is) | false ↦ station_named (field why.Station station_of l 0) refl ]
                | false ↦ tt
              ]

        in_body_named : is_table m.form ≡ true → (k : LineKind) → kind_of l.1 ≡ k → Goes (came S (in_body m t hs l k) K)
        in_body_named is (Opening g w) here = tt
        in_body_named is (Continuation g w) here = tt
        in_body_named is End here = ih outside tt
        in_body_named is Dotted here = tt
        in_body_named is Other here = line_named is here

        -- a continuation, and any other line behind the header
        module _ (p : Reached) (n : ℕ) where
          goes_on : Goes (follow S m p (own_items m.form (continued_items l)) (λ q. K (header m t q (n + 1) (hs ++ continued_items l))))
          goes_on =
              follow_all S m (Of (l ∷ ls)) (λ q. K (header m t q (n + 1) (hs ++ continued_items l))) (λ q. ih (header m t q (n + 1) (hs ++ continued_items l)) fits)
              (own_items m.form (continued_items l)) (header_items_give m (l ∷ ls) fits (continued_items l)) p

          continued : (g : Form) (w : Bool) → Goes (came S (continues m t p n hs g w l) K)
          unfolding continues
          continued g w =
              let bad = refuses (fault (Message why.Unreadable) l.0) in
              let wrong = refuses (fault (Message why.Continuation) l.0) in
              let good = reads m p (own_items m.form (continued_items l)) (λ q. header m t q (n + 1) (hs ++ continued_items l)) in
              elim (readable l.1) as (λ b. Goes (came S (cond b (cond (continues_as m n g w l.1) good wrong) bad) K)) [
                | true ↦ elim (continues_as m n g w l.1) as (λ b. Goes (came S (cond b good wrong) K)) [ true ↦ goes_on | false ↦ tt ]
                | false ↦ tt
              ]

          left_named : (b : Bool) → is_table m.form ≡ b → (k : LineKind) → kind_of l.1 ≡ k → Goes (came S (cond b (in_body m t hs l k) (onto outside)) K)
          left_named true is k here = in_body_named is k here
          left_named false is k here = ih outside tt

          header_named : (k : LineKind) → kind_of l.1 ≡ k → is_opening k ≡ false → Goes (came S (by_kind S (header m t p n hs) l k) K)
          header_named (Opening g w) here h = absurd (true≢false h)
          header_named (Continuation g w) here h = continued g w
          header_named End here h = left_named (is_table m.form) refl End here
          header_named Dotted here h = left_named (is_table m.form) refl Dotted here
          header_named Other here h = left_named (is_table m.form) refl Other here

        body_named : is_table m.form ≡ true → (k : LineKind) → kind_of l.1 ≡ k → is_opening k ≡ false → Goes (came S (by_kind S (body m t hs) l k) K)
        body_named is (Opening g w) here h = absurd (true≢false h)
        body_named is (Continuation g w) here h = tt
        body_named is End here h = in_body_named is End here
        body_named is Dotted here h = in_body_named is Dotted here
        body_named is Other here h = in_body_named is Other here

      outside_named : (k : LineKind) → is_opening k ≡ false → Goes (came S (by_kind S outside l k) K)
      outside_named (Opening g w) h = absurd (true≢false h)
      outside_named (Continuation g w) h = tt
      outside_named End h = ih outside tt
      outside_named Dotted h = ih outside tt
      outside_named Other h = ih outside tt

      skipping_named : (k : LineKind) → is_opening k ≡ false → Goes (came S (by_kind S skipping l k) K)
      skipping_named (Opening g w) h = absurd (true≢false h)
      skipping_named (Continuation g w) h = ih skipping tt
      skipping_named End h = ih skipping tt
      skipping_named Dotted h = ih skipping tt
      skipping_named Other h = ih skipping tt

      one_more : (σ : Stage) → Sound σ → NoOpening l → Goes (within S e σ (l ∷ ls))
      one_more outside s h = outside_named (kind_of l.1) h
      one_more skipping s h = skipping_named (kind_of l.1) h
      one_more (header m t p n hs) s h = header_named m t hs s p n (kind_of l.1) refl h
      one_more (body m t hs) s h = body_named m t hs s.0 s.1 (kind_of l.1) refl h

    at_end : (σ : Stage) (e : ℕ) → AllByRecursion (Of []) (records (closing σ e))
    at_end outside e = tt
    at_end skipping e = tt
    at_end (header m t p n hs) e = elim (is_table m.form) as (λ b. AllByRecursion (Of []) (records (cond b (refused (Message why.Unfinished) e ∷ []) []))) [ true ↦ tt | false ↦ tt ]
    at_end (body m t hs) e = tt

    lines_named : (e : ℕ) (ls : List Piece) → AllByRecursion NoOpening ls → (σ : Stage) → Sound σ → AllByRecursion (Of ls) (records (within S e σ ls))
    lines_named e [] hs σ s = at_end σ e
    lines_named e (l ∷ ls) hs σ s =
        one_more e l ls (λ τ u. All-weaker (Of ls) (Of (l ∷ ls)) (λ r h. (more f l ls r h.0, h.1)) (records (within S e τ ls)) (lines_named e ls hs.1 τ u)) σ s hs.0

-- an opening
module _ (f : Form) (v : Bool) (l : Piece) where
  abbrev Names : List ℕ → ℕ → Type 0
  Names name n = field why.Station station_of l (letters_of l.1) ≡ Ok (name, n)

  abbrev OpenedAs : Result Opened Fault → Type 0
  OpenedAs (Ok o) = (name : List ℕ) × ((n : ℕ) × (Names name n × Fits f v name o.common))
  OpenedAs (Err x) = Unit {0}

  dated : (name : List ℕ) (n : ℕ) → Names name n → (r : Result (Day × ℕ) Fault) → OpenedAs (then_ok r (λ d. Ok (opens_with f v name d.0 (zone_field l.1 d.1))))
  dated name n named (Ok d) = (name, (n, (named, record { form = refl; station = refl; source = refl; revised = refl })))
  dated name n named (Err x) = tt

  named_by : (today : Day) (r : Result (List ℕ × ℕ) Fault) → field why.Station station_of l (letters_of l.1) ≡ r
      → OpenedAs (then_ok r (λ n. then_ok (field why.Date (λ w. message_date w today) l n.1) (λ d. Ok (opens_with f v n.0 d.0 (zone_field l.1 d.1)))))
  named_by today (Ok n) e = dated n.0 n.1 e (field why.Date (λ w. message_date w today) l n.1)
  named_by today (Err x) e = tt

  opened_as : (today : Day) → OpenedAs (opened today f v l)
  unfolding opened
  opened_as today = named_by today (field why.Station station_of l (letters_of l.1)) refl

  keeps_form : (r : Result Opened Fault) → OpenedAs r → (o : Opened) → r ≡ Ok o → o.common.form ≡ f
  keeps_form (Ok x) h o e = let same : x ≡ o = cc in ap (λ (y : Opened). y.common.form) (sym same) ∙ h.1.1.1.form
  keeps_form (Err x) h o e = cc

  pub form_kept : (today : Day) (o : Opened) → opened today f v l ≡ Ok o → o.common.form ≡ f
  form_kept today o = keeps_form (opened today f v l) (opened_as today) o

  module _ (S : Setting) (e : ℕ) (ls : List Piece) (hs : AllByRecursion NoOpening ls) where
    abbrev Told : List Event → Type 0
    Told es = AllByRecursion (OfMessage f v (l, ls)) (records es)

    opens_named : (r : Result Opened Fault) → OpenedAs r → Told (came S (opens_to f l r) (λ σ. within S e σ ls))
    opens_named (Err x) as_is = tt
    opens_named (Ok o) as_is =
        let name = as_is.0 in
        let fits = as_is.1.1.1 in
        let items = message_items (l.0 + o.start) (drop o.start l.1) in
        let k : Reached → List Event = λ p. within S e (header o.common o.terms p 0 items) ls in
        let own = subst (λ g. AllByRecursion (Gives S o.common (Of f v name ls)) (own_items g items)) fits.form (header_items_give f v name S o.common ls fits items) in
        All-weaker (Of f v name ls) (OfMessage f v (l, ls)) (λ r h. record { name = name; behind = as_is.1.0; opens = as_is.1.1.0; named = h.0; revision = h.1 })
        (records (follow S o.common (fresh o.terms) (own_items f items) k))
        (follow_all S o.common (Of f v name ls) k (λ q. lines_named f v name S e ls hs (header o.common o.terms q 0 items) fits) (own_items f items) own (fresh o.terms))

    begins_named : Told (came S (begins S f v l) (λ σ. within S e σ ls))
    unfolding begins
    begins_named =
        let r = opened S.today f v l in
        elim (readable l.1) as (λ b. Told (came S (cond b (opens_to f l r) (refuses (fault (Message why.Unreadable) l.0))) (λ σ. within S e σ ls))) [ true ↦ opens_named r (opened_as S.today) | false ↦ tt ]

pub message_named : (S : Setting) (e : ℕ) (s : Stretch) (f : Form) (v : Bool) → kind_of s.0.1 ≡ Opening f v → AllByRecursion NoOpening s.1 → AllByRecursion (OfMessage f v s) (records (stretch S e s))
message_named S e s f v kind hs =
    subst (λ k. AllByRecursion (OfMessage f v s) (records (came S (by_kind S outside s.0 k) (λ σ. within S e σ s.1)))) (sym kind) (begins_named f v s.0 S e s.1 hs)

-- a text
opening_of : (k : LineKind) → is_opening k ≡ true → (f : Form) × ((v : Bool) × (k ≡ Opening f v))
opening_of (Opening f v) h = (f, (v, refl))
opening_of (Continuation f v) h = absurd (true≢false (sym h))
opening_of End h = absurd (true≢false (sym h))
opening_of Dotted h = absurd (true≢false (sym h))
opening_of Other h = absurd (true≢false (sym h))

records_append : (es fs : List Event) → records (es ++ fs) ≡ records es ++ records fs
records_append [] fs = refl
records_append (logged p e ∷ es) fs = ap (λ l. e ∷ l) (records_append es fs)
records_append (refused r p ∷ es) fs = records_append es fs

stretches_named : (S : Setting) (e : ℕ) (ss : List Stretch) → AllByRecursion WellCut ss → AllByRecursion (OfOne ss) (records (stretches S e ss))
stretches_named S e [] w = tt
stretches_named S e (s ∷ ss) w =
    let k = opening_of (kind_of s.0.1) w.0.0 in
    subst (AllByRecursion (OfOne (s ∷ ss))) (sym (records_append (stretch S (end_of e ss) s) (stretches S e ss)))
    (All-append (OfOne (s ∷ ss)) (records (stretch S (end_of e ss) s)) (records (stretches S e ss))
    (All-weaker (OfMessage k.0 k.1.0 s) (OfOne (s ∷ ss)) (λ r h. inl (k.0, (k.1.0, (k.1.1, h)))) (records (stretch S (end_of e ss) s)) (message_named S (end_of e ss) s k.0 k.1.0 k.1.1 w.0.1))
    (All-weaker (OfOne ss) (OfOne (s ∷ ss)) (λ r h. inr h) (records (stretches S e ss)) (stretches_named S e ss w.1)))

pub whole_named : (S : Setting) (text : List ℕ) → AllByRecursion (OfOne (cut (lines text)).1) (records (events S text))
whole_named S text =
    let c = cut (lines text) in
    let e = end_of (length text) c.1 in
    subst (AllByRecursion (OfOne c.1)) (sym (records_append (within S e outside c.0) (stretches S (length text) c.1) ∙ ap (λ es. es ++ records (stretches S (length text) c.1)) (none_logged S e c.0 (before (lines text)))))
    (stretches_named S (length text) c.1 (well_cut (lines text)))
