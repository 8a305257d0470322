-- Behind a message that is no table none is open.
use Rattle.std.proofs.Common.{◌≡◌, ℕ, ◌+◌, ◌<◌, Bool, true, false, cond, List, [], ◌∷◌, ◌++◌, length, drop, not, Some, None, Ok, Err, Option, Result, sym, refl, ap, ◌∙◌, subst, ◌≢◌, arith, length-append}
use Rattle.std.specs.Option.{option_map, ok_or}
use Rattle.std.specs.List.{AllByRecursion}
use Rattle.std.proofs.ByRecursion.{All-append}
use Rattle.std.proofs.lemmas.Bool.{true≢false}
use Rattle.calendar.specs.Messages.{message_date}
use Rattle.calendar.specs.declared.date.Date.{Date as Day}
use Rattle.items.specs.Words.{first_word}
use Rattle.merging.specs.Headers.{continued_items}
use Rattle.merging.specs.Merging.{Sided}
use Rattle.reader.specs.Kinds.{kind_of, letters_of, readable}
use Rattle.reader.specs.Lines.{Piece, lines}
use Rattle.reader.specs.declared.kind.Form.{Form}
use Rattle.reader.specs.declared.kind.LineKind.{LineKind}
use Rattle.reader.specs.declared.kind.LineKind.TheVariants.{Opening, Continuation, End, Dotted, Other}
use Rattle.record.specs.Entries.{Entry}
use Rattle.record.specs.Stations.{station_of}
use Rattle.refusals.specs.Numbers.{number_of}
use Rattle.refusals.specs.declared.Fault.{Fault}
use Rattle.refusals.specs.declared.ItemRefusal.{ItemRefusal}
use Rattle.refusals.specs.declared.ItemRefusal.TheVariants as item
use Rattle.refusals.specs.declared.MessageRefusal.{MessageRefusal}
use Rattle.refusals.specs.declared.MessageRefusal.TheVariants as why
use Rattle.refusals.specs.declared.Refusal.TheVariants.{Message, Item}
use Rattle.terms.specs.Standing.{Standing}
use Rattle.events.specs.Events.{Event, fault, logged, refused}
use Rattle.events.specs.Room.{refusals}
use Rattle.daylight.specs.Settings.{Setting}
use Rattle.messages.specs.Models.{Common, Reached}
use Rattle.messages.specs.Turns.{Turned, turn}
use Rattle.messages.specs.Ways.{then_ok}
use Rattle.logging.specs.Follow.{place_of, logs, turn_then, follow}
use Rattle.logging.specs.Own.{own_items}
use Rattle.openings.specs.Openings.{Opened, placed_word, word_at, field, opened}
use Rattle.stages.specs.Stages.{Stage, outside, skipping, header, body, Moved, onto, reads, refuses, is_table, opens_to, begins, continues_as, continues, in_body, by_kind, came, closing, within}
use Rattle.shef.specs.Texts.{is_opening, events}
use Rattle.laws.specs.Outside.{NoOpening}
use Rattle.laws.proofs.Idle.{one_stretch}
use Rattle.laws.proofs.Runs.{refusals-append}
use Rattle.laws.proofs.Totals.{Keeps, opened_keeps}
use Rattle.joining.specs.Inside.{Inside}
use Rattle.joining.specs.Joining.{shifted_events, EndsLine, opens_first}
use Rattle.joining.specs.Ordinary.{opens_no_table, OneMessage, NoneOpen}
use Rattle.joining.proofs.InsideStages.{places_inside}
use Rattle.joining.proofs.Joining.{texts_join}

-- no table is refused
abbrev Not13 : Fault → Type 0
Not13 f = number_of f.refusal ≢ 13

abbrev Clear : List Event → Type 0
Clear es = AllByRecursion Not13 (refusals es)

not_item : (r : ItemRefusal) → number_of (Item r) ≡ 13 → ⊥
not_item item.DItem h = omega arith
not_item item.Code h = omega arith
not_item item.NoCodeOrInterval h = omega arith
not_item item.NoDuration h = omega arith
not_item item.Value h = omega arith
not_item item.TooLarge h = omega arith
not_item item.NoTime h = omega arith

-- items
logs_clear : (place : ℕ) (o : Option Entry) (es : List Event) → Clear es → Clear (logs place o es)
logs_clear place None es h = h
logs_clear place (Some e) es h = h

turn_clear : (place : ℕ) (t : Turned) (k : Reached → List Event) → ((q : Reached) → Clear (k q)) → Clear (turn_then place t k)
turn_clear place (Err r) k h = (not_item r, tt)
turn_clear place (Ok t) k h = logs_clear place t.1 (k t.0) (h t.0)

follow_clear : (S : Setting) (m : Common) (p : Reached) (xs : List Sided) (k : Reached → List Event) → ((q : Reached) → Clear (k q)) → Clear (follow S m p xs k)
follow_clear S m p [] k h = h p
follow_clear S m p (x ∷ xs) k h = turn_clear (place_of x) (turn S m p x) (λ q. follow S m q xs k) (λ q. follow_clear S m q xs k h)

-- fields
abbrev Mild : {X : Type 0} → Result X Fault → Type 0
Mild (Ok x) = Unit {0}
Mild (Err f) = Not13 f

then_mild : {X Y : Type 0} (r : Result X Fault) (k : X → Result Y Fault) → Mild r → ((x : X) → Mild (k x)) → Mild (then_ok r k)
then_mild (Ok x) k m h = h x
then_mild (Err f) k m h = m

option_mild : {X : Type 0} (o : Option X) (f : Fault) → Not13 f → Mild (ok_or o f)
option_mild None f h = h
option_mild (Some x) f h = tt

word_mild : (r : MessageRefusal) (l : Piece) (from : ℕ) (o : Option (ℕ × (List ℕ × List ℕ))) → (number_of (Message r) ≡ 13 → ⊥) → Mild (placed_word r l from o)
word_mild r l from None h = h
word_mild r l from (Some w) h = tt

field_mild : {X : Type 0} (r : MessageRefusal) (read : List ℕ → Option X) (l : Piece) (from : ℕ) → (number_of (Message r) ≡ 13 → ⊥) → Mild (field r read l from)
unfolding field word_at
field_mild {X} r read l from h =
    then_mild (placed_word r l from (first_word (drop from l.1))) (λ w. ok_or (option_map (λ x. (x, w.1.1)) (read w.0)) (fault (Message r) (l.0 + w.1.0)))
    (word_mild r l from (first_word (drop from l.1)) h) (λ w. option_mild (option_map (λ x. (x, w.1.1)) (read w.0)) (fault (Message r) (l.0 + w.1.0)) h)

opened_mild : (today : Day) (f : Form) (v : Bool) (l : Piece) → Mild (opened today f v l)
unfolding opened
opened_mild today f v l =
    then_mild (field why.Station station_of l (letters_of l.1)) _ (field_mild why.Station station_of l (letters_of l.1) (λ h. omega arith))
    (λ n. then_mild (field why.Date (λ w. message_date w today) l n.1) _ (field_mild why.Date (λ w. message_date w today) l n.1 (λ h. omega arith)) (λ d. tt))

-- stages
abbrev NoTable : Stage → Type 0
NoTable outside = Unit {0}
NoTable skipping = Unit {0}
NoTable (header m t p n hs) = is_table m.form ≡ false
NoTable (body m t hs) = ⊥

abbrev Stays : Moved → Type 0
Stays (onto σ) = NoTable σ
Stays (reads m p xs to) = (q : Reached) → NoTable (to q)
Stays (refuses f) = Not13 f

came_clear : (S : Setting) (X : Moved) (k : Stage → List Event) → Stays X → ((σ : Stage) → NoTable σ → Clear (k σ)) → Clear (came S X k)
came_clear S (onto σ) k s h = h σ s
came_clear S (reads m p xs to) k s h = follow_clear S m p xs (λ q. k (to q)) (λ q. h (to q) (s q))
came_clear S (refuses f) k s h = (s, tt)

opens_stays : (f : Form) (l : Piece) (r : Result Opened Fault) → is_table f ≡ false → Mild r → Keeps f r → Stays (opens_to f l r)
opens_stays f l (Err x) is mild keeps = mild
opens_stays f l (Ok o) is mild keeps = λ q. ap is_table keeps ∙ is

begins_stays : (S : Setting) (f : Form) (v : Bool) (l : Piece) → is_table f ≡ false → Stays (begins S f v l)
unfolding begins
begins_stays S f v l is =
    let bad = refuses (fault (Message why.Unreadable) l.0) in
    elim (readable l.1) as (λ b. Stays (cond b (opens_to f l (opened S.today f v l)) bad)) [
      | true ↦ opens_stays f l (opened S.today f v l) is (opened_mild S.today f v l) (opened_keeps S.today f v l)
      | false ↦ (λ h. omega arith)
    ]

module _ (S : Setting) (m : Common) (t : Standing) (p : Reached) (n : ℕ) (hs : List Piece) (l : Piece) (is : is_table m.form ≡ false) where
  continues_stays : (f : Form) (v : Bool) → Stays (continues m t p n hs f v l)
  unfolding continues
  continues_stays f v =
      let bad = refuses (fault (Message why.Unreadable) l.0) in
      let wrong = refuses (fault (Message why.Continuation) l.0) in
      let good = reads m p (own_items m.form (continued_items l)) (λ q. header m t q (n + 1) (hs ++ continued_items l)) in
      elim (readable l.1) as (λ b. Stays (cond b (cond (continues_as m n f v l.1) good wrong) bad)) [
        | true ↦ elim (continues_as m n f v l.1) as (λ b. Stays (cond b good wrong)) [ true ↦ (λ q. is) | false ↦ (λ h. omega arith) ]
        | false ↦ (λ h. omega arith)
      ]

  leaves : (k : LineKind) → Stays (cond (is_table m.form) (in_body m t hs l k) (onto outside))
  leaves k = subst (λ b. Stays (cond b (in_body m t hs l k) (onto outside))) (sym is) tt

  header_stays : (k : LineKind) → is_opening k ≡ false → Stays (by_kind S (header m t p n hs) l k)
  header_stays (Opening f v) h = absurd (true≢false h)
  header_stays (Continuation f v) h = continues_stays f v
  header_stays End h = leaves End
  header_stays Dotted h = leaves Dotted
  header_stays Other h = leaves Other

line_stays : (S : Setting) (σ : Stage) (l : Piece) (k : LineKind) → NoTable σ → is_opening k ≡ false → Stays (by_kind S σ l k)
line_stays S σ l (Opening f v) free h = absurd (true≢false h)
line_stays S outside l (Continuation f v) free h = λ e. omega arith
line_stays S outside l End free h = tt
line_stays S outside l Dotted free h = tt
line_stays S outside l Other free h = tt
line_stays S skipping l (Continuation f v) free h = tt
line_stays S skipping l End free h = tt
line_stays S skipping l Dotted free h = tt
line_stays S skipping l Other free h = tt
line_stays S (header m t p n hs) l k free h = header_stays S m t p n hs l free k h
line_stays S (body m t hs) l k free h = absurd free

closing_clear : (σ : Stage) (e : ℕ) → NoTable σ → Clear (closing σ e)
closing_clear outside e free = tt
closing_clear skipping e free = tt
closing_clear (header m t p n hs) e free = subst (λ b. Clear (cond b (refused (Message why.Unfinished) e ∷ []) [])) (sym free) tt
closing_clear (body m t hs) e free = absurd free

within_clear : (S : Setting) (e : ℕ) (σ : Stage) (ls : List Piece) → NoTable σ → AllByRecursion NoOpening ls → Clear (within S e σ ls)
within_clear S e σ [] free os = closing_clear σ e free
within_clear S e σ (l ∷ ls) free os = came_clear S (by_kind S σ l (kind_of l.1)) (λ τ. within S e τ ls) (line_stays S σ l (kind_of l.1) free os.0) (λ τ n. within_clear S e τ ls n os.1)

-- an opening of another form
opening_is : (k : LineKind) → opens_no_table k ≡ true → is_opening k ≡ true
opening_is (Opening f v) h = refl
opening_is (Continuation f v) h = h
opening_is End h = h
opening_is Dotted h = h
opening_is Other h = h

form_is : (b : Bool) → not b ≡ true → b ≡ false
form_is true h = sym h
form_is false h = refl

opening_stays : (S : Setting) (l : Piece) (k : LineKind) → opens_no_table k ≡ true → Stays (by_kind S outside l k)
opening_stays S l (Opening f v) h = begins_stays S f v l (form_is (is_table f) h)
opening_stays S l (Continuation f v) h = absurd (true≢false (sym h))
opening_stays S l End h = absurd (true≢false (sym h))
opening_stays S l Dotted h = absurd (true≢false (sym h))
opening_stays S l Other h = absurd (true≢false (sym h))

-- texts
one_opens : (ls : List Piece) → OneMessage ls → opens_first ls ≡ true
one_opens [] one = absurd one
one_opens (l ∷ ls) one = opening_is (kind_of l.1) one.0

some_bytes : (text : List ℕ) → OneMessage (lines text) → 0 < length text
some_bytes [] one = absurd one
some_bytes (b ∷ bs) one = omega arith

message_clear : (S : Setting) (text : List ℕ) (ls : List Piece) → lines text ≡ ls → OneMessage ls → Clear (events S text)
message_clear S text [] is one = absurd one
message_clear S text (l ∷ ls) is one =
    let e = length text in
    subst Clear (sym (one_stretch S text l ls is one.1 (opening_is (kind_of l.1) one.0)))
    (came_clear S (by_kind S outside l (kind_of l.1)) (λ σ. within S e σ ls) (opening_stays S l (kind_of l.1) one.0) (λ σ free. within_clear S e σ ls free one.1))

-- none of these faults is the one that a table at e would have
module _ (e : ℕ) where
  abbrev Apart : Fault → Type 0
  Apart f = f ≢ fault (Message why.Unfinished) e

  early : (n : ℕ) (es : List Event) → n < e → AllByRecursion (Inside n) es → AllByRecursion Apart (refusals es)
  early n [] lt h = tt
  early n (logged p x ∷ es) lt h = early n es lt h.1
  early n (refused r p ∷ es) lt h = ((λ is. let same : p ≡ e = ap (λ (f : Fault). f.place) is in omega (arith, same, h.0, lt)), early n es lt h.1)

  apart_shifted : (n : ℕ) (es : List Event) → Clear es → AllByRecursion Apart (refusals (shifted_events n es))
  apart_shifted n [] h = tt
  apart_shifted n (logged p x ∷ es) h = apart_shifted n es h
  apart_shifted n (refused r p ∷ es) h = ((λ is. h.0 (ap (λ (f : Fault). number_of f.refusal) is)), apart_shifted n es h.1)

pub behind_message : (S : Setting) (before message : List ℕ) → EndsLine before → OneMessage (lines message) → NoneOpen S (before ++ message)
behind_message S before message ends one =
    let e = length (before ++ message) in
    let n = length before in
    let es = events S before in
    let fs = shifted_events n (events S message) in
    let lt : n < e = omega (arith, some_bytes message one, length-append before message) in
    subst (AllByRecursion (Apart e)) (sym (ap refusals (texts_join S before message ends (one_opens (lines message) one)) ∙ refusals-append es fs))
    (All-append (Apart e) (refusals es) (refusals fs) (early e n es lt (places_inside S before)) (apart_shifted e n (events S message) (message_clear S message (lines message) refl one)))
