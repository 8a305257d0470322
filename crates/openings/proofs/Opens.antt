-- The fields of an opening line.
use Rattle.std.proofs.Common.{◌≡◌, ℕ, ◌+◌, Bool, List, length, drop, Some, None, Ok, Err, Option, Result, IfOk, refl, ap, ◌∙◌, subst}
use Rattle.std.specs.Option.{option_map, ok_or}
use Rattle.calendar.specs.declared.date.Date.{Date as Day}
use Rattle.calendar.specs.Messages.{message_date}
use Rattle.daylight.specs.declared.zone.Zone.{Zone}
use Rattle.daylight.specs.Zones.{zone_of}
use Rattle.items.specs.Words.{first_word}
use Rattle.reader.specs.Kinds.{letters_of}
use Rattle.reader.specs.Lines.{Piece}
use Rattle.reader.specs.declared.kind.Form.{Form}
use Rattle.record.specs.Stations.{station_of}
use Rattle.refusals.specs.declared.Fault.{Fault}
use Rattle.refusals.specs.declared.MessageRefusal.{MessageRefusal}
use Rattle.refusals.specs.declared.MessageRefusal.TheVariants as why
use Rattle.refusals.specs.declared.Refusal.TheVariants.{Message}
use Rattle.events.specs.Events.{fault}
use Rattle.messages.specs.Ways.{map_ok, then_ok}
use Rattle.openings.specs.Openings.{placed_word, word_at, field, utc, zone_read, zone_word, zone_field, Opened, opens_with, opened}

module _ (r : MessageRefusal) (l : Piece) (from : ℕ) where
  pub word_none : None ≡ first_word (drop from l.1) → Err (fault (Message r) (l.0 + length l.1)) ≡ word_at r l from
  unfolding word_at
  word_none e = ap (placed_word r l from) e

  pub word_some : (w : ℕ × (List ℕ × List ℕ)) → Some w ≡ first_word (drop from l.1) → Ok (w.1.0, (from + w.0, from + w.0 + length w.1.0)) ≡ word_at r l from
  unfolding word_at
  word_some w e = ap (placed_word r l from) e

-- a field that is refused, and one that is read, by what the reader gave of its word
module _ {A : Type 0} (r : MessageRefusal) (o : Option A) (l : Piece) (from : ℕ) where
  abbrev reads : List ℕ × (ℕ × ℕ) → Result (A × ℕ) Fault
  reads w = ok_or (option_map (λ x. (x, w.1.1)) o) (fault (Message r) (l.0 + w.1.0))

  pub field-missing : (f : Fault) → Err f ≡ word_at r l from → Err f ≡ field r (λ _. o) l from
  unfolding field
  field-missing f e = ap (λ x. then_ok x reads) e

  pub field-read : (w : List ℕ × (ℕ × ℕ)) → Ok w ≡ word_at r l from → reads w ≡ field r (λ _. o) l from
  unfolding field
  field-read w e = ap (λ x. then_ok x reads) e

-- what is read keeps its fault
pub ok_mapped : {A B E : Type 0} (h : A → B) (p : Option A) (f : E) → map_ok {A = A} {B = B} h (ok_or p f) ≡ ok_or (option_map h p) f
ok_mapped h None f = refl
ok_mapped h (Some x) f = refl

pub ok-holds : {A E : Type 0} (P : A → Type 0) (x : A) (r : Result A E) → Ok x ≡ r → P x → IfOk r P
ok-holds P x r e h = subst (λ q. IfOk q P) e h

pub err-holds : {A E : Type 0} (P : A → Type 0) (f : E) (r : Result A E) → Err f ≡ r → IfOk r P
err-holds P f r e = subst (λ q. IfOk q P) e tt

-- what is known of the word alone, as `view` sees what it was read as
module _ {A B : Type 0} (view : A → B) (r : MessageRefusal) (o : Option A) (read : List ℕ → Option B) (l : Piece) (from : ℕ) where
  seen : (p : Option A) (w : List ℕ × (ℕ × ℕ)) → option_map view p ≡ read w.0
      → map_ok {A = A × ℕ} {B = B × ℕ} (λ q. (view q.0, q.1)) (ok_or (option_map (λ x. (x, w.1.1)) p) (fault (Message r) (l.0 + w.1.0))) ≡ ok_or (option_map (λ x. (x, w.1.1)) (read w.0)) (fault (Message r) (l.0 + w.1.0))
  seen None w h = ap (λ (q : Option B). ok_or (option_map (λ x. (x, w.1.1)) q) (fault (Message r) (l.0 + w.1.0))) h
  seen (Some a) w h = ap (λ (q : Option B). ok_or (option_map (λ x. (x, w.1.1)) q) (fault (Message r) (l.0 + w.1.0))) h

  viewed : (W : Result (List ℕ × (ℕ × ℕ)) Fault) → IfOk W (λ w. option_map view o ≡ read w.0)
      → map_ok {A = A × ℕ} {B = B × ℕ} (λ p. (view p.0, p.1)) (then_ok W (λ w. ok_or (option_map (λ x. (x, w.1.1)) o) (fault (Message r) (l.0 + w.1.0))))
      ≡ then_ok W (λ w. ok_or (option_map (λ x. (x, w.1.1)) (read w.0)) (fault (Message r) (l.0 + w.1.0)))
  viewed (Err f) h = refl
  viewed (Ok w) h = seen o w h

  paired : (n : ℕ) (R : Result A Fault) → map_ok {B = B × ℕ} (λ x. (view x, n)) R ≡ map_ok {A = A × ℕ} {B = B × ℕ} (λ p. (view p.0, p.1)) (map_ok {B = A × ℕ} (λ x. (x, n)) R)
  paired n (Ok x) = refl
  paired n (Err f) = refl

  field-viewed : IfOk (word_at r l from) (λ w. option_map view o ≡ read w.0) → map_ok {A = A × ℕ} {B = B × ℕ} (λ p. (view p.0, p.1)) (field r (λ _. o) l from) ≡ field r read l from
  unfolding field
  field-viewed h = viewed (word_at r l from) h

  pub field_is : (n : ℕ) (R : Result A Fault) → map_ok {B = A × ℕ} (λ x. (x, n)) R ≡ field r (λ _. o) l from → IfOk (word_at r l from) (λ w. option_map view o ≡ read w.0) → map_ok {B = B × ℕ} (λ x. (view x, n)) R ≡ field r read l from
  field_is n R e h = paired n R ∙ ap (map_ok {A = A × ℕ} {B = B × ℕ} (λ p. (view p.0, p.1))) e ∙ field-viewed h

module _ (line : List ℕ) (from : ℕ) where
  pub zone_none : None ≡ first_word (drop from line) → (utc, from) ≡ zone_field line from
  unfolding zone_field
  zone_none e = ap (zone_word from) e

  pub zone_other : (w : ℕ × (List ℕ × List ℕ)) → Some w ≡ first_word (drop from line) → None ≡ zone_of w.1.0 → (utc, from) ≡ zone_field line from
  unfolding zone_field
  zone_other w e none = ap (zone_read from (from + w.0 + length w.1.0)) none ∙ ap (zone_word from) e

  pub zone_is : (w : ℕ × (List ℕ × List ℕ)) (z : Zone) → Some w ≡ first_word (drop from line) → Some z ≡ zone_of w.1.0 → (z, from + w.0 + length w.1.0) ≡ zone_field line from
  unfolding zone_field
  zone_is w z e some = ap (zone_read from (from + w.0 + length w.1.0)) some ∙ ap (zone_word from) e

module _ (today : Day) (f : Form) (v : Bool) (l : Piece) where
  abbrev dated : List ℕ × ℕ → Result Opened Fault
  dated n = then_ok (field why.Date (λ w. message_date w today) l n.1) (λ d. Ok (opens_with f v n.0 d.0 (zone_field l.1 d.1)))

  pub no_station : (x : Fault) → Err x ≡ field why.Station station_of l (letters_of l.1) → Err x ≡ opened today f v l
  unfolding opened
  no_station x e = ap (λ y. then_ok y dated) e

  pub no_date : (x : Fault) (n : List ℕ × ℕ) → Ok n ≡ field why.Station station_of l (letters_of l.1) → Err x ≡ field why.Date (λ w. message_date w today) l n.1 → Err x ≡ opened today f v l
  unfolding opened
  no_date x n e d = ap (λ y. then_ok y (λ q. Ok (opens_with f v n.0 q.0 (zone_field l.1 q.1)))) d ∙ ap (λ y. then_ok y dated) e

  pub opens : (n : List ℕ × ℕ) (d : Day × ℕ) (z : Zone × ℕ) → Ok n ≡ field why.Station station_of l (letters_of l.1) → Ok d ≡ field why.Date (λ w. message_date w today) l n.1 → z ≡ zone_field l.1 d.1
      → Ok (opens_with f v n.0 d.0 z) ≡ opened today f v l
  unfolding opened
  opens n d z e g h = ap (λ q. Ok (opens_with f v n.0 d.0 q)) h ∙ ap (λ y. then_ok y (λ q. Ok (opens_with f v n.0 q.0 (zone_field l.1 q.1)))) g ∙ ap (λ y. then_ok y dated) e
