-- Where the station, the source, the revision and the mark of a message's records come from.
use Rattle.std.specs.Prelude.{◌≡◌, ℕ, Bool, false, ◌⊎◌, List, [], ◌∷◌, length, Some, None, Ok}
use Rattle.std.specs.List.{AllByRecursion}
use Rattle.reader.specs.Kinds.{kind_of, letters_of}
use Rattle.reader.specs.Lines.{Piece, lines}
use Rattle.reader.specs.declared.kind.Form.{Form}
use Rattle.reader.specs.declared.kind.Form.TheVariants.{A, B, E}
use Rattle.reader.specs.declared.kind.LineKind.TheVariants.{Opening}
use Rattle.record.specs.Entries.{Entry}
use Rattle.record.specs.Stations.{station_of}
use Rattle.refusals.specs.declared.MessageRefusal.TheVariants.{Station}
use Rattle.events.specs.Events.{records}
use Rattle.daylight.specs.Settings.{Setting}
use Rattle.logging.specs.Walks.{marks_in, marks_of}
use Rattle.openings.specs.Openings.{field}
use Rattle.shef.specs.Texts.{Stretch, cut, stretch, events}
use Rattle.laws.specs.Outside.{NoOpening}
use Rattle.laws.specs.Tables.{Plain}

-- one of the lines without a first dot begins with the station
abbrev pub NamedByOne : List ℕ → List Piece → Type 0
NamedByOne station [] = ⊥
NamedByOne station (l ∷ ls) = (Plain l × ((n : ℕ) × (field Station station_of l 0 ≡ Ok (station, n)))) ⊎ NamedByOne station ls

-- what the opening names is the station in .A and .E, and the source in .B, where a body line names the station
abbrev pub Named : Form → List ℕ → List Piece → Entry → Type 0
Named A name ls e = (e.station ≡ name) × (e.source ≡ None)
Named B name ls e = (e.source ≡ Some name) × NamedByOne e.station ls
Named E name ls e = (e.station ≡ name) × (e.source ≡ None)

-- a record of an opening and the lines up to the next one
pub record OfMessage (f : Form) (revised : Bool) (s : Stretch) (e : Entry) : Type 0 where
  pub name : List ℕ
  pub behind : ℕ
  pub opens : field Station station_of s.0 (letters_of s.0.1) ≡ Ok (name, behind)
  pub named : Named f name s.1 e
  pub revision : e.revised ≡ revised

abbrev pub OfOne : List Stretch → Entry → Type 0
OfOne [] e = ⊥
OfOne (s ∷ ss) e = ((f : Form) × ((v : Bool) × ((kind_of s.0.1 ≡ Opening f v) × OfMessage f v s e))) ⊎ OfOne ss e

pub record MessagesName : Type 0 where
  -- the records of a message
  pub message : (S : Setting) (e : ℕ) (s : Stretch) (f : Form) (v : Bool) → kind_of s.0.1 ≡ Opening f v → AllByRecursion NoOpening s.1 → AllByRecursion (OfMessage f v s) (records (stretch S e s))
  -- and their marks: 1 and then 2 in .E, 0 elsewhere
  pub marks : (S : Setting) (e : ℕ) (s : Stretch) (f : Form) (v : Bool)
      → kind_of s.0.1 ≡ Opening f v → AllByRecursion NoOpening s.1 → marks_of (stretch S e s) ≡ marks_in f false (length (records (stretch S e s)))
  -- each record of a text is of one of its messages
  pub whole : (S : Setting) (text : List ℕ) → AllByRecursion (OfOne (cut (lines text)).1) (records (events S text))
