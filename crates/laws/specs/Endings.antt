-- How a message ends: a refusal is its last event.
use Rattle.std.specs.Prelude.{◌≡◌, ℕ, ◌+◌, ◌≤◌, List, [], ◌∷◌, ◌++◌, length, Some, None, Option}
use Rattle.std.specs.List.{AllByRecursion}
use Rattle.reader.specs.Lines.{Piece, lines}
use Rattle.record.specs.Entries.{Entry}
use Rattle.refusals.specs.declared.Fault.{Fault}
use Rattle.events.specs.Events.{Event, refused, records}
use Rattle.events.specs.Passing.{logged_all}
use Rattle.events.specs.Room.{refusals}
use Rattle.daylight.specs.Settings.{Setting}
use Rattle.stages.specs.Stages.{outside, within}
use Rattle.shef.specs.Texts.{Stretch, cut, stretch, events}
use Rattle.laws.specs.Outside.{NoOpening}

abbrev pub lastly : Option Fault → List Event
lastly None = []
lastly (Some f) = refused f.refusal f.place ∷ []

-- records, and then perhaps one refusal
pub record EndsOnce (es : List Event) : Type 0 where
  pub logs : List (ℕ × Entry)
  pub ending : Option Fault
  pub is : es ≡ logged_all logs ++ lastly ending

pub record OneRefusal : Type 0 where
  -- an opening and its lines
  pub message : (S : Setting) (e : ℕ) (s : Stretch) → EndsOnce (stretch S e s) × (length (refusals (stretch S e s)) ≤ 1)
  -- the lines before the first opening, of which there is no record
  pub preface : (S : Setting) (e : ℕ) (ls : List Piece) → (records (within S e outside (cut ls).0) ≡ []) × (length (refusals (within S e outside (cut ls).0)) ≤ 1)
  -- a text of which only the first line may be an opening is one message
  pub single : (S : Setting) (text : List ℕ) (l : Piece) (ls : List Piece) → lines text ≡ l ∷ ls → AllByRecursion NoOpening ls → EndsOnce (events S text) × (length (refusals (events S text)) ≤ 1)
  -- a text has at most one refusal for each opening, and one before the first
  pub whole : (S : Setting) (text : List ℕ) → length (refusals (events S text)) ≤ length (cut (lines text)).1 + 1
