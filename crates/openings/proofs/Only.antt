-- A line shows its fields in one way only.
use Rattle.std.proofs.Common.{◌≡◌, ℕ, ◌+◌, ◌<◌, Bool, true, false, List, [], ◌∷◌, ◌++◌, length, take, drop, Some, None, Ok, Err, Option, Result, refl, sym, ap, ◌∙◌, ⊎_elim, arith}
use Rattle.std.specs.List.{AllByRecursion, prefix_len}
use Rattle.std.specs.Option.{option_map, ok_or}
use Rattle.std.proofs.Math.Seq.{drop-append_seam, take-append_seam}
use Rattle.std.proofs.lemmas.Bool.{cases_Bool, cond-false, cond-true, eq-eqb, eqb-true, true≢false}
use Rattle.std.proofs.lemmas.List.{length-append}
use Rattle.calendar.specs.declared.date.Date.{Date as Day}
use Rattle.calendar.specs.Messages.{message_date}
use Rattle.daylight.specs.declared.zone.Zone.{Zone}
use Rattle.items.proofs.Found.{word_closed}
use Rattle.items.proofs.Parting.{all_led, marks-append}
use Rattle.items.proofs.Scan.{length-marks}
use Rattle.items.specs.declared.mark.Mark.{Mark}
use Rattle.items.specs.declared.mark.Mark.TheVariants.{Blank as Gap, Slash, Text}
use Rattle.items.specs.declared.mark.Run.TheVariants.{Blanks, Word}
use Rattle.items.specs.Items.{is_blank}
use Rattle.items.specs.Marks.{mark_of, marks, passes}
use Rattle.items.specs.Parting.{Reads, leaves}
use Rattle.items.specs.Words.{lead_of, word_len, first_word}
use Rattle.messages.specs.Ways.{then_ok}
use Rattle.reader.specs.Kinds.{letters_of}
use Rattle.reader.specs.Lines.{Piece}
use Rattle.reader.specs.Told.{opener}
use Rattle.reader.specs.declared.kind.Form.{Form}
use Rattle.record.specs.Stations.{station_of}
use Rattle.refusals.specs.declared.Fault.{Fault}
use Rattle.refusals.specs.declared.MessageRefusal.{MessageRefusal}
use Rattle.refusals.specs.declared.MessageRefusal.TheVariants.{Station, Date}
use Rattle.refusals.specs.declared.Refusal.TheVariants.{Message}
use Rattle.events.specs.Events.{fault}
use Rattle.openings.proofs.Opens as opening
use Rattle.openings.specs.Openings.{placed_word, word_at, field, zone_read, zone_word, zone_field, Opened, opened}
use Rattle.openings.specs.Shown.{Next, Blank, FieldShown, missing, none, said, ZoneShown, named, other, blank, OpeningShown, no_station, no_date, read}

run_on : (p : Mark → Bool) (ms ns : List Mark) → AllByRecursion (λ m. p m ≡ true) ms → prefix_len p (ms ++ ns) ≡ length ms + prefix_len p ns
run_on p [] ns h = omega arith
run_on p (m ∷ ms) ns h = cond-true (p m) (1 + prefix_len p (ms ++ ns)) 0 h.0 ∙ omega (arith, run_on p ms ns h.1)

no_gap : (m : Mark) → passes Word m ≡ true → passes Blanks m ≡ false
no_gap Gap is = absurd (true≢false (sym is))
no_gap Slash is = refl
no_gap Text is = refl

word_first : (xs rest : List ℕ) → Reads Word false xs → 0 < length xs → prefix_len (passes Blanks) (marks false (xs ++ rest)) ≡ 0
word_first [] rest h lt = absurd (omega arith)
word_first (x ∷ xs) rest h lt = cond-false _ _ _ (no_gap (mark_of false x) h.0)

-- what is blank has no word
blank_none : (bs : List ℕ) → Reads Blanks false bs → first_word bs ≡ None
blank_none bs h = cond-true (is_blank bs) None _ (eq-eqb _ _ (all_led (passes Blanks) (marks false bs) h ∙ length-marks false bs))

module _ (blanks word rest : List ℕ) (before : Reads Blanks false blanks) (outside : leaves false blanks ≡ false) (unbroken : Reads Word false word) (some : 0 < length word) (behind : prefix_len (passes Word) (marks false rest) ≡ 0) where
  abbrev bs : List ℕ
  bs = blanks ++ (word ++ rest)

  lead : lead_of bs ≡ length blanks
  lead =
      ap (prefix_len (passes Blanks)) (marks-append false blanks (word ++ rest) ∙ ap (λ s. marks false blanks ++ marks s (word ++ rest)) outside)
      ∙ run_on (passes Blanks) (marks false blanks) (marks false (word ++ rest)) before
      ∙ omega (arith, length-marks false blanks, word_first word rest unbroken some)

  inner : drop (lead_of bs) bs ≡ word ++ rest
  inner = ap (λ n. drop n bs) lead ∙ drop-append_seam blanks (word ++ rest)

  len : word_len (word ++ rest) ≡ length word
  len =
      ap (prefix_len (passes Word)) (marks-append false word rest ∙ ap (λ s. marks false word ++ marks s rest) (word_closed word unbroken))
      ∙ run_on (passes Word) (marks false word) (marks false rest) unbroken
      ∙ omega (arith, length-marks false word, behind)

  filled : is_blank bs ≡ false
  filled =
      ⊎_elim
      (λ is. absurd (omega (arith, lead, eqb-true (lead_of bs) (length bs) is, length-append blanks (word ++ rest), length-append word rest)))
      (λ is. is)
      (cases_Bool (is_blank bs))

  abbrev cut : ℕ → List ℕ → ℕ → Option (ℕ × (List ℕ × List ℕ))
  cut n xs k = Some (n, (take k xs, drop k xs))

  first_is : first_word bs ≡ Some (length blanks, (word, rest))
  first_is =
      cond-false (is_blank bs) None (cut (lead_of bs) (drop (lead_of bs) bs) (word_len (drop (lead_of bs) bs))) filled
      ∙ ap (λ xs. cut (lead_of bs) xs (word_len xs)) inner
      ∙ ap (λ n. cut n (word ++ rest) (word_len (word ++ rest))) lead
      ∙ ap (cut (length blanks) (word ++ rest)) len
      ∙ ap (λ xs. Some (length blanks, (xs, drop (length word) (word ++ rest)))) (take-append_seam word rest)
      ∙ ap (λ xs. Some (length blanks, (word, xs))) (drop-append_seam word rest)

module _ (line : List ℕ) (n : ℕ) where
  behind_front : (front bs : List ℕ) → line ≡ front ++ bs → n ≡ length front → drop n line ≡ bs
  behind_front front bs whole count = ap (λ k. drop k line) count ∙ ap (drop (length front)) whole ∙ drop-append_seam front bs

  next_first : (word : List ℕ) (place : ℕ) (h : Next line n word place) → first_word (drop n line) ≡ Some (length h.blanks, (word, h.rest))
  next_first word place h =
      ap first_word (behind_front h.front (h.blanks ++ (word ++ h.rest)) h.whole h.count) ∙ first_is h.blanks word h.rest h.before h.outside h.unbroken h.some h.behind

  blank_first : Blank line n → first_word (drop n line) ≡ None
  blank_first h = ap first_word (behind_front h.front h.rest h.whole h.count) ∙ blank_none h.rest h.blank

  zone_only : (z : Zone × ℕ) → ZoneShown line n z → zone_field line n ≡ z
  unfolding zone_field
  zone_only _ (named word place z h e) = ap (zone_word n) (next_first word place h) ∙ ap (zone_read n (n + length h.blanks + length word)) e ∙ ap (λ p. (z, p + length word)) (sym h.stands)
  zone_only _ (other word place h e) = ap (zone_word n) (next_first word place h) ∙ ap (zone_read n (n + length h.blanks + length word)) e
  zone_only _ (blank h) = ap (zone_word n) (blank_first h)

module _ {A : Type 0} (r : MessageRefusal) (says : List ℕ → Option A) (l : Piece) (n : ℕ) where
  abbrev says_of : List ℕ × (ℕ × ℕ) → Result (A × ℕ) Fault
  says_of w = ok_or (option_map (λ x. (x, w.1.1)) (says w.0)) (fault (Message r) (l.0 + w.1.0))

  word_blank : Blank l.1 n → word_at r l n ≡ Err (fault (Message r) (l.0 + length l.1))
  unfolding word_at
  word_blank h = ap (placed_word r l n) (blank_first l.1 n h)

  word_next : (word : List ℕ) (place : ℕ) → Next l.1 n word place → word_at r l n ≡ Ok (word, (place, place + length word))
  unfolding word_at
  word_next word place h = ap (placed_word r l n) (next_first l.1 n word place h) ∙ ap (λ p. Ok (word, (p, p + length word))) (sym h.stands)

  pub field_only : (R : Result (A × ℕ) Fault) → FieldShown r says l n R → field r says l n ≡ R
  unfolding field
  field_only _ (missing h) = ap (λ W. then_ok W says_of) (word_blank h)
  field_only _ (none word place h e) = ap (λ W. then_ok W says_of) (word_next word place h) ∙ ap (λ (o : Option A). ok_or (option_map (λ x. (x, place + length word)) o) (fault (Message r) (l.0 + place))) e
  field_only _ (said word place x h e) = ap (λ W. then_ok W says_of) (word_next word place h) ∙ ap (λ (o : Option A). ok_or (option_map (λ y. (y, place + length word)) o) (fault (Message r) (l.0 + place))) e

module _ (today : Day) (f : Form) (v : Bool) (l : Piece) (len : letters_of l.1 ≡ length (opener f v)) where
  station_only : (R : Result (List ℕ × ℕ) Fault) → FieldShown Station station_of l (length (opener f v)) R → R ≡ field Station station_of l (letters_of l.1)
  station_only R h = sym (ap (field Station station_of l) len ∙ field_only Station station_of l (length (opener f v)) R h)

  date_only : (n : ℕ) (R : Result (Day × ℕ) Fault) → FieldShown Date (λ w. message_date w today) l n R → R ≡ field Date (λ w. message_date w today) l n
  date_only n R h = sym (field_only Date (λ w. message_date w today) l n R h)

  pub opening_only : (R : Result Opened Fault) → OpeningShown today f v l R → R ≡ opened today f v l
  opening_only _ (no_station e h) = opening.no_station today f v l e (station_only (Err e) h)
  opening_only _ (no_date name e h g) = opening.no_date today f v l e name (station_only (Ok name) h) (date_only name.1 (Err e) g)
  opening_only _ (read name day zone h g k) = opening.opens today f v l name day zone (station_only (Ok name) h) (date_only name.1 (Ok day) g) (sym (zone_only l.1 day.1 zone k))
