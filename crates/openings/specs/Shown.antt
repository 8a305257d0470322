-- How a line shows its fields, as relations: they do not say how the fields are found.
use Rattle.std.specs.Prelude.{◌≡◌, ℕ, ◌+◌, ◌<◌, ◌↔◌, Bool, false, List, ◌++◌, length, Some, None, Ok, Err, Option, Result}
use Rattle.std.specs.List.{prefix_len}
use Rattle.calendar.specs.declared.date.Date.{Date as Day}
use Rattle.calendar.specs.Messages.{message_date}
use Rattle.daylight.specs.declared.zone.Zone.{Zone}
use Rattle.daylight.specs.Zones.{zone_of}
use Rattle.items.specs.declared.mark.Run.TheVariants.{Blanks, Word}
use Rattle.items.specs.Marks.{marks, passes}
use Rattle.items.specs.Parting.{Reads, leaves}
use Rattle.reader.specs.Kinds.{kind_of}
use Rattle.reader.specs.Lines.{Piece}
use Rattle.reader.specs.Told.{opener, EndOrBlank}
use Rattle.reader.specs.declared.kind.Form.{Form}
use Rattle.reader.specs.declared.kind.LineKind.TheVariants.{Opening}
use Rattle.record.specs.Stations.{station_of}
use Rattle.refusals.specs.declared.Fault.{Fault}
use Rattle.refusals.specs.declared.MessageRefusal.{MessageRefusal}
use Rattle.refusals.specs.declared.MessageRefusal.TheVariants.{Station, Date}
use Rattle.refusals.specs.declared.Refusal.TheVariants.{Message}
use Rattle.events.specs.Events.{fault}
use Rattle.openings.specs.Openings.{field, utc, Opened, opens_with, opened}

-- Behind n bytes of the line stand blanks or none, comments among them, and then, at the offset `place`, the word: it has no blank
-- inside, and a blank or the end behind it.
pub record Next (line : List ℕ) (n : ℕ) (word : List ℕ) (place : ℕ) : Type 0 where
  pub front : List ℕ
  pub blanks : List ℕ
  pub rest : List ℕ
  pub whole : line ≡ front ++ (blanks ++ (word ++ rest))
  pub count : n ≡ length front
  pub stands : place ≡ n + length blanks
  pub before : Reads Blanks false blanks
  pub outside : leaves false blanks ≡ false
  pub unbroken : Reads Word false word
  pub some : 0 < length word
  pub behind : prefix_len (passes Word) (marks false rest) ≡ 0

-- behind n bytes of the line stands nothing but blanks and comments
pub record Blank (line : List ℕ) (n : ℕ) : Type 0 where
  pub front : List ℕ
  pub rest : List ℕ
  pub whole : line ≡ front ++ rest
  pub count : n ≡ length front
  pub blank : Reads Blanks false rest

-- the field behind n bytes of the line: what its word says, and the offset right behind it; or it is refused
pub data FieldShown {A : Type 0} (r : MessageRefusal) (read : List ℕ → Option A) (l : Piece) (n : ℕ) : Result (A × ℕ) Fault → Type 0 where
  -- its word is missing, which is refused at the line's end
  missing : Blank l.1 n → FieldShown r read l n (Err (fault (Message r) (l.0 + length l.1)))
  -- its word says nothing, which is refused at the word
  none : (word : List ℕ) (place : ℕ) → Next l.1 n word place → read word ≡ None → FieldShown r read l n (Err (fault (Message r) (l.0 + place)))
  said : (word : List ℕ) (place : ℕ) (x : A) → Next l.1 n word place → read word ≡ Some x → FieldShown r read l n (Ok (x, place + length word))

-- the zone behind n bytes of the line, and the offset at which the items begin
pub data ZoneShown (line : List ℕ) (n : ℕ) : Zone × ℕ → Type 0 where
  -- the next word is exactly a zone code, and the items begin right behind it
  named : (word : List ℕ) (place : ℕ) (z : Zone) → Next line n word place → zone_of word ≡ Some z → ZoneShown line n (z, place + length word)
  -- the next word is no zone code, or there is none: the zone is UTC, and the items begin right there
  other : (word : List ℕ) (place : ℕ) → Next line n word place → zone_of word ≡ None → ZoneShown line n (utc, n)
  blank : Blank line n → ZoneShown line n (utc, n)

-- what an opening line comes to: behind its letters the station, then the date, and then perhaps a zone
pub data OpeningShown (today : Day) (f : Form) (v : Bool) (l : Piece) : Result Opened Fault → Type 0 where
  no_station : (e : Fault) → FieldShown Station station_of l (length (opener f v)) (Err e) → OpeningShown today f v l (Err e)
  no_date : (name : List ℕ × ℕ) (e : Fault) → FieldShown Station station_of l (length (opener f v)) (Ok name) → FieldShown Date (λ w. message_date w today) l name.1 (Err e)
      → OpeningShown today f v l (Err e)
  read : (name : List ℕ × ℕ) (day : Day × ℕ) (zone : Zone × ℕ) → FieldShown Station station_of l (length (opener f v)) (Ok name) → FieldShown Date (λ w. message_date w today) l name.1 (Ok day)
      → ZoneShown l.1 day.1 zone → OpeningShown today f v l (Ok (opens_with f v name.0 day.0 zone))

pub record OpeningsShown : Type 0 where
  -- an opening line begins with its letters, and behind them is the end or a blank
  pub letters : (f : Form) (v : Bool) (line : List ℕ) → kind_of line ≡ Opening f v → (rest : List ℕ) × ((line ≡ opener f v ++ rest) × EndOrBlank rest)
  -- it comes to what it shows, and to nothing else
  pub openings : (today : Day) (f : Form) (v : Bool) (l : Piece) (r : Result Opened Fault) → kind_of l.1 ≡ Opening f v → (opened today f v l ≡ r) ↔ OpeningShown today f v l r
  -- a body line shows its station so from its first byte on
  pub stations : (l : Piece) (r : Result (List ℕ × ℕ) Fault) → (field Station station_of l 0 ≡ r) ↔ FieldShown Station station_of l 0 r
