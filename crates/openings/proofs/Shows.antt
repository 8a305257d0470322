-- How a line shows its fields.
use Rattle.std.proofs.Common.{◌≡◌, ℕ, suc, ◌+◌, ◌≤◌, Bool, true, false, cond, eqb, List, [], ◌∷◌, ◌++◌, length, take, drop, Some, None, Ok, Err, Option, Result, IfOk, MatchOption, refl, sym, ap, ◌∙◌, subst, arith}
use Rattle.std.specs.Option.{option_map, ok_or}
use Rattle.std.proofs.lemmas.List.{length-append, length-take-le, take-append-drop}
use Rattle.calendar.specs.declared.date.Date.{Date as Day}
use Rattle.calendar.specs.Messages.{message_date}
use Rattle.daylight.specs.declared.zone.Zone.{Zone}
use Rattle.daylight.specs.Zones.{zone_of}
use Rattle.items.proofs.Found.{words_found}
use Rattle.items.specs.declared.mark.Run.TheVariants.{Blanks}
use Rattle.items.specs.Parting.{Reads, WordFound}
use Rattle.items.specs.Words.{first_word}
use Rattle.messages.specs.Ways.{then_ok}
use Rattle.reader.proofs.Told.{letters_told}
use Rattle.reader.specs.Kinds.{kind_of, letters_of}
use Rattle.reader.specs.Lines.{Piece}
use Rattle.reader.specs.Told.{opener, EndOrBlank}
use Rattle.reader.specs.declared.kind.Form.{Form}
use Rattle.reader.specs.declared.kind.LineKind.TheVariants.{Opening}
use Rattle.record.specs.Stations.{station_of}
use Rattle.refusals.specs.declared.Fault.{Fault}
use Rattle.refusals.specs.declared.MessageRefusal.{MessageRefusal}
use Rattle.refusals.specs.declared.MessageRefusal.TheVariants.{Station, Date}
use Rattle.refusals.specs.declared.Refusal.TheVariants.{Message}
use Rattle.events.specs.Events.{fault}
use Rattle.openings.proofs.Only.{field_only, opening_only}
use Rattle.openings.specs.Openings.{placed_word, word_at, field, zone_read, zone_word, zone_field, opens_with, opened}
use Rattle.openings.specs.Shown.{Next, Blank, FieldShown, missing, none, said, ZoneShown, named, other, blank, OpeningShown, no_station, no_date, read, OpeningsShown}

abbrev Word : Type 0
Word = ℕ × (List ℕ × List ℕ)

module _ (line : List ℕ) (n : ℕ) (le : n ≤ length line) where
  parts : line ≡ take n line ++ drop n line
  parts = sym (take-append-drop n line)

  counted : n ≡ length (take n line)
  counted = sym (length-take-le n line le)

  next_found : (w : Word) → WordFound (drop n line) w → Next line n w.1.0 (n + w.0)
  next_found w h = record {
    front = take n line;
    blanks = h.front;
    rest = w.1.1;
    whole = parts ∙ ap (λ bs. take n line ++ bs) h.whole;
    count = counted;
    stands = ap (λ k. n + k) h.lead;
    before = h.before;
    outside = h.outside;
    unbroken = h.word;
    some = h.some;
    behind = h.behind;
  }

  none_left : Reads Blanks false (drop n line) → Blank line n
  none_left h = record { front = take n line; rest = drop n line; whole = parts; count = counted; blank = h }

-- a word ends in its line
next_inside : (line : List ℕ) (n : ℕ) (word : List ℕ) (place : ℕ) → Next line n word place → place + length word ≤ length line
next_inside line n word place h =
    let a = ap length h.whole in
    omega (arith, h.count, h.stands, length-append h.front (h.blanks ++ (word ++ h.rest)), length-append h.blanks (word ++ h.rest), length-append word h.rest)

module _ {A : Type 0} (r : MessageRefusal) (says : List ℕ → Option A) (l : Piece) (n : ℕ) where
  shown_inside : (R : Result (A × ℕ) Fault) → FieldShown r says l n R → IfOk R (λ q. q.1 ≤ length l.1)
  shown_inside _ (missing h) = tt
  shown_inside _ (none word place h e) = tt
  shown_inside _ (said word place x h e) = next_inside l.1 n word place h

  module _ (le : n ≤ length l.1) where
    of_option : (word : List ℕ) (place : ℕ) → Next l.1 n word place → (o : Option A) → says word ≡ o
        → FieldShown r says l n (ok_or (option_map (λ x. (x, place + length word)) o) (fault (Message r) (l.0 + place)))
    of_option word place h None e = none word place h e
    of_option word place h (Some x) e = said word place x h e

    of_word : (o : Option Word) → MatchOption o (Reads Blanks false (drop n l.1)) (λ w. WordFound (drop n l.1) w)
        → FieldShown r says l n (then_ok (placed_word r l n o) (λ w. ok_or (option_map (λ x. (x, w.1.1)) (says w.0)) (fault (Message r) (l.0 + w.1.0))))
    of_word None h = missing (none_left l.1 n le h)
    of_word (Some w) h = of_option w.1.0 (n + w.0) (next_found l.1 n le w h) (says w.1.0) refl

    field_shown : FieldShown r says l n (field r says l n)
    unfolding field word_at
    field_shown = of_word (first_word (drop n l.1)) (words_found (drop n l.1))

module _ (line : List ℕ) (n : ℕ) (le : n ≤ length line) where
  zone_of_option : (word : List ℕ) (place : ℕ) → Next line n word place → (o : Option Zone) → zone_of word ≡ o → ZoneShown line n (zone_read n (place + length word) o)
  zone_of_option word place h None e = other word place h e
  zone_of_option word place h (Some z) e = named word place z h e

  zone_of_word : (o : Option Word) → MatchOption o (Reads Blanks false (drop n line)) (λ w. WordFound (drop n line) w) → ZoneShown line n (zone_word n o)
  zone_of_word None h = blank (none_left line n le h)
  zone_of_word (Some w) h = zone_of_option w.1.0 (n + w.0) (next_found line n le w h) (zone_of w.1.0) refl

  zone_shown : ZoneShown line n (zone_field line n)
  unfolding zone_field
  zone_shown = zone_of_word (first_word (drop n line)) (words_found (drop n line))

three : (b : Bool) (n : ℕ) → cond b 3 2 ≤ suc (suc (suc n))
three true n = omega arith
three false n = omega arith

letters_short : (line : List ℕ) → letters_of line ≤ length line
letters_short [] = omega arith
letters_short (a ∷ []) = omega arith
letters_short (a ∷ b ∷ []) = omega arith
letters_short (a ∷ b ∷ c ∷ bs) = three (eqb c 82) (length bs)

module _ (f : Form) (v : Bool) (line : List ℕ) (is : kind_of line ≡ Opening f v) where
  letters_len : letters_of line ≡ length (opener f v)
  letters_len = sym (length-take-le (letters_of line) line (letters_short line)) ∙ ap length (letters_told line f v is).0

  letters : (rest : List ℕ) × ((line ≡ opener f v ++ rest) × EndOrBlank rest)
  letters =
      let told = letters_told line f v is in
      (drop (letters_of line) line, (sym (take-append-drop (letters_of line) line) ∙ ap (λ bs. bs ++ drop (letters_of line) line) told.0, told.1))

module _ (today : Day) (f : Form) (v : Bool) (l : Piece) (is : kind_of l.1 ≡ Opening f v) where
  of_date : (name : List ℕ × ℕ) → FieldShown Station station_of l (length (opener f v)) (Ok name) → (R : Result (Day × ℕ) Fault) → FieldShown Date (λ w. message_date w today) l name.1 R
      → OpeningShown today f v l (then_ok R (λ d. Ok (opens_with f v name.0 d.0 (zone_field l.1 d.1))))
  of_date name h (Err e) g = no_date name e h g
  of_date name h (Ok day) g = read name day (zone_field l.1 day.1) h g (zone_shown l.1 day.1 (shown_inside Date (λ w. message_date w today) l name.1 (Ok day) g))

  of_station : (R : Result (List ℕ × ℕ) Fault) → FieldShown Station station_of l (length (opener f v)) R
      → OpeningShown today f v l (then_ok R (λ n. then_ok (field Date (λ w. message_date w today) l n.1) (λ d. Ok (opens_with f v n.0 d.0 (zone_field l.1 d.1)))))
  of_station (Err e) h = no_station e h
  of_station (Ok name) h =
      of_date name h (field Date (λ w. message_date w today) l name.1)
      (field_shown Date (λ w. message_date w today) l name.1 (shown_inside Station station_of l (length (opener f v)) (Ok name) h))

  opening_shown : OpeningShown today f v l (opened today f v l)
  unfolding opened
  opening_shown =
      of_station (field Station station_of l (letters_of l.1))
      (subst (λ n. FieldShown Station station_of l n (field Station station_of l (letters_of l.1))) (letters_len f v l.1 is) (field_shown Station station_of l (letters_of l.1) (letters_short l.1)))

pub openings_shown : OpeningsShown
openings_shown = record {
  letters = letters;
  openings = λ today f v l r is. (λ e. subst (OpeningShown today f v l) e (opening_shown today f v l is), λ h. sym (opening_only today f v l (letters_len f v l.1 is) r h));
  stations = λ l r. (λ e. subst (FieldShown Station station_of l 0) e (field_shown Station station_of l 0 (omega arith)), field_only Station station_of l 0 r);
}
