-- The fields of a line end in it, and what is refused of them stands in it or at its end. Assumes nothing.
use Rattle.std.proofs.Common.{ℕ, ◌+◌, ◌≤◌, Bool, List, length, drop, Some, None, Ok, Err, Option, Result, arith}
use Rattle.std.specs.Option.{option_map, ok_or}
use Rattle.calendar.specs.declared.date.Date.{Date as Day}
use Rattle.calendar.specs.Messages.{message_date}
use Rattle.daylight.specs.declared.zone.Zone.{Zone}
use Rattle.daylight.specs.Zones.{zone_of}
use Rattle.items.specs.Words.{first_word}
use Rattle.reader.specs.Kinds.{letters_of}
use Rattle.reader.specs.Lines.{Piece}
use Rattle.reader.specs.declared.kind.Form.{Form}
use Rattle.record.specs.Stations.{station_of}
use Rattle.refusals.specs.declared.Fault.{Fault}
use Rattle.refusals.specs.declared.MessageRefusal.{MessageRefusal}
use Rattle.refusals.specs.declared.MessageRefusal.TheVariants as why
use Rattle.refusals.specs.declared.Refusal.TheVariants.{Message}
use Rattle.events.specs.Events.{fault}
use Rattle.messages.specs.Ways.{then_ok}
use Rattle.openings.specs.Openings.{placed_word, word_at, field, zone_read, zone_word, zone_field, Opened, opens_with, opened}
use Rattle.joining.proofs.InsideItems.{WordEnds, word_ends}
use Rattle.joining.proofs.InsideTurns.{Ends}

-- P holds of a result, or it is refused at e or before
abbrev pub Within : {A : Type 0} → ℕ → (A → Type 0) → Result A Fault → Type 0
Within e P (Ok x) = P x
Within e P (Err f) = f.place ≤ e

then_within : {A B : Type 0} (e : ℕ) (P : A → Type 0) (Q : B → Type 0) (r : Result A Fault) (k : A → Result B Fault) → Within e P r → ((a : A) → P a → Within e Q (k a)) → Within e Q (then_ok r k)
then_within e P Q (Ok a) k w h = h a w
then_within e P Q (Err f) k w h = w

-- the word's offset and the one behind it are in the line
abbrev Bounds : List ℕ → List ℕ × (ℕ × ℕ) → Type 0
Bounds line w = (w.1.0 ≤ length line) × (w.1.1 ≤ length line)

module _ (e : ℕ) (l : Piece) (le : Ends e l) where
  word_within : (r : MessageRefusal) (from : ℕ) (o : Option (ℕ × (List ℕ × List ℕ))) → WordEnds l.1 from o → Within e (Bounds l.1) (placed_word r l from o)
  word_within r from None h = le
  word_within r from (Some w) h = (omega arith, h)

  or-within : {A : Type 0} (r : MessageRefusal) (o : Option A) (at behind : ℕ) → at ≤ length l.1 → behind ≤ length l.1 → Within e (λ (x : A × ℕ). x.1 ≤ length l.1) (ok_or (option_map (λ x. (x, behind)) o) (fault (Message r) (l.0 + at)))
  or-within r None at behind h g = omega arith
  or-within r (Some x) at behind h g = g

  pub field-within : {A : Type 0} (r : MessageRefusal) (read : List ℕ → Option A) (from : ℕ) → Within e (λ (x : A × ℕ). x.1 ≤ length l.1) (field r read l from)
  unfolding field word_at
  field-within {A} r read from =
      then_within e (Bounds l.1) (λ (x : A × ℕ). x.1 ≤ length l.1) (placed_word r l from (first_word (drop from l.1))) (λ w. ok_or (option_map (λ x. (x, w.1.1)) (read w.0)) (fault (Message r) (l.0 + w.1.0)))
      (word_within r from (first_word (drop from l.1)) (word_ends l.1 from)) (λ w b. or-within r (read w.0) w.1.0 w.1.1 b.0 b.1)

  read_ends : (from behind : ℕ) (o : Option Zone) → from ≤ length l.1 → behind ≤ length l.1 → (zone_read from behind o).1 ≤ length l.1
  read_ends from behind None h g = h
  read_ends from behind (Some z) h g = g

  zone_word_ends : (from : ℕ) (o : Option (ℕ × (List ℕ × List ℕ))) → from ≤ length l.1 → WordEnds l.1 from o → (zone_word from o).1 ≤ length l.1
  zone_word_ends from None h g = h
  zone_word_ends from (Some w) h g = read_ends from (from + w.0 + length w.1.0) (zone_of w.1.0) h g

  zone_ends : (from : ℕ) → from ≤ length l.1 → (zone_field l.1 from).1 ≤ length l.1
  unfolding zone_field
  zone_ends from h = zone_word_ends from (first_word (drop from l.1)) h (word_ends l.1 from)

  pub opened-within : (today : Day) (f : Form) (v : Bool) → Within e (λ (o : Opened). o.start ≤ length l.1) (opened today f v l)
  unfolding opened
  opened-within today f v =
      let zoned : List ℕ × ℕ → Day × ℕ → Result Opened Fault = λ s d. Ok (opens_with f v s.0 d.0 (zone_field l.1 d.1)) in
      let date : List ℕ × ℕ → Result (Day × ℕ) Fault = λ s. field why.Date (λ w. message_date w today) l s.1 in
      then_within e (λ (s : List ℕ × ℕ). s.1 ≤ length l.1) (λ (o : Opened). o.start ≤ length l.1) (field why.Station station_of l (letters_of l.1)) (λ s. then_ok (date s) (zoned s))
      (field-within why.Station station_of (letters_of l.1)) (λ s b.
      then_within e (λ (d : Day × ℕ). d.1 ≤ length l.1) (λ (o : Opened). o.start ≤ length l.1) (date s) (zoned s)
      (field-within why.Date (λ w. message_date w today) s.1) (λ d c. zone_ends d.1 c))
