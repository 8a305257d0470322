-- What is refused in an opening or a station is of the message layer.
use Rattle.std.proofs.Common.{◌≡◌, ℕ, ◌+◌, Bool, List, drop, Some, None, Ok, Err, Option, Result, sym, refl, subst}
use Rattle.std.specs.Option.{option_map, ok_or}
use Rattle.calendar.specs.declared.date.Date.{Date as Day}
use Rattle.calendar.specs.Messages.{message_date}
use Rattle.items.specs.Words.{first_word}
use Rattle.reader.specs.Kinds.{letters_of}
use Rattle.reader.specs.Lines.{Piece}
use Rattle.reader.specs.declared.kind.Form.{Form}
use Rattle.record.specs.Stations.{station_of}
use Rattle.refusals.specs.declared.Fault.{Fault}
use Rattle.refusals.specs.declared.MessageRefusal.{MessageRefusal}
use Rattle.refusals.specs.declared.MessageRefusal.TheVariants as why
use Rattle.refusals.specs.declared.Refusal.TheVariants.{Message}
use Rattle.events.specs.Events.{fault}
use Rattle.messages.specs.Ways.{then_ok}
use Rattle.openings.specs.Openings.{placed_word, word_at, field, zone_field, opens_with, opened}

-- a fault of the message layer
abbrev pub Says : Fault → Type 0
Says x = (y : MessageRefusal) × (x.refusal ≡ Message y)

-- a result whose error, if it is one, is of the message layer
abbrev Saying : {A : Type 0} → Result A Fault → Type 0
Saying (Ok x) = Unit {0}
Saying (Err f) = Says f

says_from : {A : Type 0} (r : Result A Fault) (x : Fault) → Saying r → Err x ≡ r → Says x
says_from {A} r x s e = subst (λ (y : Result A Fault). Saying y) (sym e) s

then_saying : {A B : Type 0} (r : Result A Fault) (k : A → Result B Fault) → Saying r → ((a : A) → Saying (k a)) → Saying (then_ok r k)
then_saying (Ok a) k s h = h a
then_saying (Err f) k s h = s

word_saying : (r : MessageRefusal) (l : Piece) (from : ℕ) (w : Option (ℕ × (List ℕ × List ℕ))) → Saying (placed_word r l from w)
word_saying r l from None = (r, refl)
word_saying r l from (Some w) = tt

or_saying : {A : Type 0} (r : MessageRefusal) (p : ℕ) (o : Option A) → Saying (ok_or o (fault (Message r) p))
or_saying r p None = (r, refl)
or_saying r p (Some x) = tt

field_saying : {A : Type 0} (r : MessageRefusal) (read : List ℕ → Option A) (l : Piece) (from : ℕ) → Saying (field r read l from)
unfolding field word_at
field_saying {A} r read l from =
    then_saying (placed_word r l from (first_word (drop from l.1))) (λ w. ok_or (option_map (λ x. (x, w.1.1)) (read w.0)) (fault (Message r) (l.0 + w.1.0)))
    (word_saying r l from (first_word (drop from l.1))) (λ w. or_saying r (l.0 + w.1.0) (option_map (λ x. (x, w.1.1)) (read w.0)))

pub field_says : {A : Type 0} (r : MessageRefusal) (read : List ℕ → Option A) (l : Piece) (from : ℕ) (x : Fault) → Err x ≡ field r read l from → Says x
field_says r read l from x e = says_from (field r read l from) x (field_saying r read l from) e

opened_saying : (today : Day) (f : Form) (v : Bool) (l : Piece) → Saying (opened today f v l)
unfolding opened
opened_saying today f v l =
    then_saying (field why.Station station_of l (letters_of l.1)) (λ n. then_ok (field why.Date (λ w. message_date w today) l n.1) (λ d. Ok (opens_with f v n.0 d.0 (zone_field l.1 d.1))))
    (field_saying why.Station station_of l (letters_of l.1))
    (λ n. then_saying (field why.Date (λ w. message_date w today) l n.1) (λ d. Ok (opens_with f v n.0 d.0 (zone_field l.1 d.1))) (field_saying why.Date (λ w. message_date w today) l n.1) (λ d. tt))

pub opened_says : (today : Day) (f : Form) (v : Bool) (l : Piece) (x : Fault) → Err x ≡ opened today f v l → Says x
opened_says today f v l x e = says_from (opened today f v l) x (opened_saying today f v l) e
