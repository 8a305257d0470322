-- A text, line after line.
use Rattle.std.proofs.Common.{◌≡◌, ℕ, ◌+◌, ◌-◌, true, false, cond, List, [], ◌∷◌, ◌++◌, length, take, sym, refl, ap, ◌∙◌, subst, ⊎_elim, append_assoc, arith, length-append, IfOk, Ok, Err, Result}
use Rattle.std.proofs.lemmas.Bool.{cond-true, cond-false, cases_Bool, true≢false}
use Rattle.calendar.specs.Dates.{message_day}
use Rattle.record.specs.Entries.{Entry}
use Rattle.reader.specs.Kinds.{kind_of}
use Rattle.reader.specs.Lines.{Piece}
use Rattle.reader.specs.declared.kind.LineKind.{LineKind}
use Rattle.reader.specs.declared.kind.LineKind.TheVariants.{Opening, Continuation, End, Dotted, Other}
use Rattle.refusals.specs.declared.Fault.{Fault}
use Rattle.refusals.specs.declared.MessageRefusal.TheVariants as why
use Rattle.refusals.specs.declared.Refusal.{Refusal}
use Rattle.refusals.specs.declared.Refusal.TheVariants.{CurrentDate, Message, Item, NoRoom}
use Rattle.sink.specs.Logs.{Log, put, put_all}
use Rattle.sink.proofs.Puts.{takes_in}
use Rattle.events.specs.Events.{Event, fault, logged, refused, records, verdict}
use Rattle.events.specs.Passing.{Comes, Passed, Stopped, StopsAt, Full, logged_all}
use Rattle.events.specs.Room.{refusals}
use Rattle.events.proofs.Going.{Going, Done, renamed, passed, refusing, filled}
use Rattle.daylight.specs.Settings.{Setting}
use Rattle.shef.specs.Answers.{Read, ended_by, ends_reading, noted}
use Rattle.shef.specs.Decodes.{answer_of, counted, decoded, ends_here, ending_number}
use Rattle.stages.specs.Stages.{Stage, outside, skipping, header, body, by_kind, next, came, closing, within, is_table}
use Rattle.shef.specs.Texts.{is_opening, Stretch, on_front, cut, end_of, stretches, to_come, events}

-- an opening acts alike in every stage
opening_alike : (S : Setting) (σ : Stage) (l : Piece) (k : LineKind) → is_opening k ≡ true → by_kind S outside l k ≡ by_kind S σ l k
opening_alike S σ l (Opening f v) e = refl
opening_alike S σ l (Continuation f v) e = absurd (true≢false (sym e))
opening_alike S σ l End e = absurd (true≢false (sym e))
opening_alike S σ l Dotted e = absurd (true≢false (sym e))
opening_alike S σ l Other e = absurd (true≢false (sym e))

module _ (S : Setting) (e : ℕ) where
  -- what is to come behind a line, from the stage that it leads to
  abbrev pub behind_line : List Piece → Stage → List Event
  behind_line ls τ = within S (end_of e (cut ls).1) τ (cut ls).0

  -- a line's turn
  pub to_come-line : (σ : Stage) (l : Piece) (ls : List Piece) → to_come S e σ (l ∷ ls) ≡ ends_here σ l ++ (came S (next S σ l) (behind_line ls) ++ stretches S e (cut ls).1)
  to_come-line σ l ls =
      ⊎_elim
      (λ t.
      ap (λ (c : List Piece × List Stretch). within S (end_of e c.1) σ c.0 ++ stretches S e c.1) (ap (λ b. on_front b l (cut ls)) t)
      ∙ ap (λ x. closing σ l.0 ++ (came S x (behind_line ls) ++ stretches S e (cut ls).1)) (opening_alike S σ l (kind_of l.1) t)
      ∙ ap (λ (es : List Event). es ++ (came S (next S σ l) (behind_line ls) ++ stretches S e (cut ls).1)) (sym (cond-true (is_opening (kind_of l.1)) (closing σ l.0) [] t)))
      (λ t.
      ap (λ (c : List Piece × List Stretch). within S (end_of e c.1) σ c.0 ++ stretches S e c.1) (ap (λ b. on_front b l (cut ls)) t)
      ∙ ap (λ (es : List Event). es ++ (came S (next S σ l) (behind_line ls) ++ stretches S e (cut ls).1)) (sym (cond-false (is_opening (kind_of l.1)) (closing σ l.0) [] t)))
      (cases_Bool (is_opening (kind_of l.1)))

  skip_one : (l : Piece) (k : LineKind) (rest : Stage → List Event) → is_opening k ≡ false → came S (by_kind S skipping l k) rest ≡ rest skipping
  skip_one l (Opening f v) rest h = absurd (true≢false h)
  skip_one l (Continuation f v) rest h = refl
  skip_one l End rest h = refl
  skip_one l Dotted rest h = refl
  skip_one l Other rest h = refl

  -- while lines are skipped nothing comes of them
  skipped : (d : ℕ) (ls : List Piece) → within S d skipping (cut ls).0 ≡ []
  skipped d [] = refl
  skipped d (l ∷ ls) =
      ⊎_elim
      (λ t. ap (λ b. within S d skipping (on_front b l (cut ls)).0) t)
      (λ t. ap (λ b. within S d skipping (on_front b l (cut ls)).0) t ∙ skip_one l (kind_of l.1) (λ τ. within S d τ (cut ls).0) t ∙ skipped d ls)
      (cases_Bool (is_opening (kind_of l.1)))

  pub to_come_skipping : (ls : List Piece) → stretches S e (cut ls).1 ≡ to_come S e skipping ls
  to_come_skipping ls = ap (λ (es : List Event). es ++ stretches S e (cut ls).1) (sym (skipped (end_of e (cut ls).1) ls))

-- refusals alone
records-closing : (σ : Stage) (p : ℕ) → records (closing σ p) ≡ []
records-closing outside p = refl
records-closing skipping p = refl
records-closing (header m t q n hs) p = elim (is_table m.form) as (λ b. records (cond b (refused (Message why.Unfinished) p ∷ []) []) ≡ []) [ true ↦ refl | false ↦ refl ]
records-closing (body m t hs) p = refl

pub records_here : (σ : Stage) (l : Piece) → records (ends_here σ l) ≡ []
records_here σ l = elim (is_opening (kind_of l.1)) as (λ b. records (cond b (closing σ l.0) []) ≡ []) [ true ↦ records-closing σ l.0 | false ↦ refl ]

-- the same by other names
as_is : {l m : Log Entry} {f g h : Log Fault} {all rest : List Event} {j k : ℕ} → Going l m f g all rest k → h ≡ g → j ≡ k → Going l m f h all rest j
as_is {l} {m} {f} {g} {h} {all} {rest} {j} {k} G eh ej =
    let a : Going l m f h all rest k = subst (λ (x : Log Fault). Going l m f x all rest k) (sym eh) G in
    subst (λ (x : ℕ). Going l m f h all rest x) (sym ej) a

-- refusals go to the list
refused_all : {l m : Log Entry} {f : Log Fault} {all rest : List Event} (es : List Event) (g h : Log Fault) (k : ℕ) → records es ≡ [] → Going l m f g all (es ++ rest) k → h ≡ put_all g (refusals es) → Going l m f h all rest (k + length (refusals es))
refused_all [] g h k none G is = as_is G is (omega arith)
refused_all (refused r p ∷ es) g h k none G is = as_is (refused_all es (put g (fault r p)) h (k + 1) none (refusing G refl) is) refl (omega arith)
refused_all (logged p e ∷ es) g h k none G is = let z : ◌≡◌ {A = ℕ} 0 1 = cc in absurd (omega arith)

-- how far a reading has come, with the faults counted as far as they go
pub record Turning (l m : Log Entry) (f g : Log Fault) (all rest : List Event) (found : ℕ) : Type 0 where
  pub count : ℕ
  pub going : Going l m f g all rest count
  pub is : found ≡ counted count

pub turn_renamed : {l m : Log Entry} {f g : Log Fault} {all rest other : List Event} {found : ℕ} → Turning l m f g all rest found → rest ≡ other → Turning l m f g all other found
turn_renamed T e = record { count = T.count; going = renamed T.going e; is = T.is }

counts_on : (k n : ℕ) → counted (counted k + n) ≡ counted (k + n)
counts_on k n = omega arith

pub turn_refused : {l m : Log Entry} {f g h : Log Fault} {all rest : List Event} {found more : ℕ} (es : List Event) → records es ≡ [] → Turning l m f g all (es ++ rest) found → h ≡ put_all g (refusals es) → more ≡ counted (found + length (refusals es)) → Turning l m f h all rest more
turn_refused {l} {m} {f} {g} {h} {all} {rest} {found} {more} es none T is em = record {
  count = T.count + length (refusals es);
  going = refused_all es g h T.count none T.going is;
  is = em ∙ ap (λ x. counted (x + length (refusals es))) T.is ∙ counts_on T.count (length (refusals es));
}

module _ {K : Type 0} {l m n : Log Entry} {f g : Log Fault} {all : List Event} {found : ℕ} (whole : K → List Event) (k : K) (tail : List Event) where
  pub turn_passed : {rest : K → List Event} → Turning l m f g all (whole k ++ tail) found → Passed m n whole rest → Turning l n f g all (rest k ++ tail) found
  turn_passed {rest} T P =
      let e : whole k ++ tail ≡ logged_all P.some ++ (rest k ++ tail) = ap (λ (x : List Event). x ++ tail) (P.is k) ∙ append_assoc (logged_all P.some) (rest k) tail in
      record { count = T.count; going = passed P.some (renamed T.going e) P.fits P.put; is = T.is }

stops_refused : {K : Type 0} (r : Refusal) (p : ℕ) (m : Log Entry) (rest : K → List Event) → ends_reading r ≡ false → StopsAt r p m rest → (k : K) → rest k ≡ refused r p ∷ []
stops_refused CurrentDate p m rest h s = s
stops_refused (Message r) p m rest h s = s
stops_refused (Item r) p m rest h s = s
stops_refused NoRoom p m rest h s = absurd (true≢false h)

no_room : (r : Refusal) → ends_reading r ≡ true → r ≡ NoRoom
no_room CurrentDate h = absurd (true≢false (sym h))
no_room (Message r) h = absurd (true≢false (sym h))
no_room (Item r) h = absurd (true≢false (sym h))
no_room NoRoom h = refl

module _ {K : Type 0} {l m n : Log Entry} {f g : Log Fault} {all : List Event} {found : ℕ} (whole : K → List Event) (k : K) (tail : List Event) (x : Fault) where
  -- a refusal ends its message
  pub turn_stopped : {h : Log Fault} {more : ℕ} → Turning l m f g all (whole k ++ tail) found → Stopped x m n whole → ends_reading x.refusal ≡ false → h ≡ put_all g (noted x) → more ≡ counted (found + length (noted x))
      → Turning l n f h all tail more
  turn_stopped {h} {more} T s on is em =
      let T1 : Turning l n f g all (s.rest k ++ tail) found = turn_passed whole k tail T s.passed in
      let T2 : Turning l n f g all (refused x.refusal x.place ∷ tail) found = turn_renamed T1 (ap (λ (y : List Event). y ++ tail) (stops_refused x.refusal x.place n s.rest on s.stops k)) in
      let at : noted x ≡ x ∷ [] = cond-false (ends_reading x.refusal) [] (x ∷ []) on in
      turn_refused (refused x.refusal x.place ∷ []) refl T2 (is ∙ ap (put_all g) at) (em ∙ ap (λ (y : List Fault). counted (found + length y)) at)

  -- a record without room ends the reading, and its fault is left to be put
  pub turn_full : {h : Log Fault} {more : ℕ} → Turning l m f g all (whole k ++ tail) found → Stopped x m n whole → ends_reading x.refusal ≡ true → h ≡ put_all g (noted x) → more ≡ counted (found + length (noted x))
      → (j : ℕ) × Done l n f (put h x) all 14 j × (counted (more + 1) ≡ counted j)
  turn_full {h} {more} T s ends is em =
      let room = no_room x.refusal ends in
      let at : noted x ≡ [] = cond-true (ends_reading x.refusal) [] (x ∷ []) ends in
      let T0 : Turning l m f h all (whole k ++ tail) more = turn_refused [] refl T (is ∙ ap (put_all g) at) (em ∙ ap (λ (y : List Fault). counted (found + length y)) at) in
      let T1 : Turning l n f h all (s.rest k ++ tail) more = turn_passed whole k tail T0 s.passed in
      let full : Full n x.place s.rest = subst (λ (r : Refusal). StopsAt r x.place n s.rest) room s.stops in
      let G : Going l n f h all (logged x.place full.next ∷ (full.tail k ++ tail)) T1.count = renamed T1.going (ap (λ (y : List Event). y ++ tail) (full.is k)) in
      (T1.count + 1, filled G full.none (ap (λ (r : Refusal). put h (fault r x.place)) room), ap (λ y. counted (y + 1)) T1.is ∙ counts_on T1.count 1)

-- a line that is not refused
pub came_on : {K : Type 0} (r : Result (Unit {0}) Fault) {l m : Log Entry} {whole rest : K → List Event} → ((f : Fault) → r ≡ Err f → ⊥) → Comes r l m whole (λ _. rest) → Passed l m whole rest
came_on (Ok u) h c = c
came_on (Err f) h c = absurd (h f refl)

pub holds_on : (r : Result (Unit {0}) Fault) {P : Type 0} → ((f : Fault) → r ≡ Err f → ⊥) → IfOk r (λ _. P) → P
holds_on (Ok u) h p = p
holds_on (Err f) h p = absurd (h f refl)

-- how many records went in
pub sent_is : (l m : Log Entry) (xs : List Entry) → m ≡ put_all l xs → length m.entries - length l.entries ≡ length (take l.room xs)
sent_is l m xs e =
    let d : length m.entries ≡ length (l.entries ++ take l.room xs) = ap (λ (x : Log Entry). length x.entries) (e ∙ takes_in Entry l.entries l.room xs) in
    omega (arith, d, length-append l.entries (take l.room xs))

-- under a day of 1900 to 2099 a text comes to its events
module _ (S : Setting) (text : List ℕ) {l m : Log Entry} {f g : Log Fault} {found : ℕ} (day : message_day S.today ≡ true) where
  read_on : {r : Result (Unit {0}) Fault} → Read l m f g (events S text) (verdict l.room (events S text)) r found → Read l m f g (decoded S text) (answer_of S l.room text) r found
  read_on {r} R =
      let R1 : Read l m f g (decoded S text) (verdict l.room (events S text)) r found = subst (λ (es : List Event). Read l m f g es (verdict l.room (events S text)) r found) (sym (cond-true (message_day S.today) _ _ day)) R in
      subst (λ (n : ℕ). Read l m f g (decoded S text) n r found) (sym (cond-true (message_day S.today) _ _ day)) R1

  -- a fault ends the reading
  pub read_up_to : (x : Fault) (j : ℕ) → ends_reading x.refusal ≡ true → Done l m f (put g x) (events S text) 14 j → counted (found + 1) ≡ counted j → Read l m f g (decoded S text) (answer_of S l.room text) (Err x) found
  read_up_to x j ends D e = read_on (record { sink = D.sink; list = D.faults; number = ap (λ r. ending_number (ended_by r)) (no_room x.refusal ends) ∙ D.answers; all = e ∙ ap counted D.seen })
