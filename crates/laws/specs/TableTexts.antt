-- A table from its opening line on: its header, and its body lines, each of which starts from what the header says.
use Rattle.std.specs.Prelude.{◌≡◌, ℕ, ◌≤◌, Bool, List, [], ◌∷◌, ◌++◌, Ok, ◌≢◌, ◌⊎◌}
use Rattle.std.specs.List.{flat_map, AllByRecursion}
use Rattle.merging.specs.Headers.{header_items}
use Rattle.reader.specs.Kinds.{kind_of}
use Rattle.reader.specs.Lines.{Piece, lines}
use Rattle.reader.specs.declared.kind.Form.TheVariants.{B}
use Rattle.reader.specs.declared.kind.LineKind.TheVariants.{Opening, End, Dotted}
use Rattle.refusals.specs.declared.MessageRefusal.TheVariants.{Unfinished}
use Rattle.refusals.specs.declared.Refusal.TheVariants.{Message}
use Rattle.events.specs.Events.{Event, refused}
use Rattle.events.specs.Room.{refusals}
use Rattle.daylight.specs.Settings.{Setting}
use Rattle.openings.specs.Openings.{Opened, opened}
use Rattle.stages.specs.Stages.{outside, within}
use Rattle.shef.specs.Texts.{stretch, events}
use Rattle.laws.specs.Headings.{HeaderRead}
use Rattle.laws.specs.Outside.{NoOpening, NoContinuation, Continues}
use Rattle.laws.specs.Readings.{behind_fields}
use Rattle.laws.specs.Tables.{body_events, Plain, Reads}

-- the line .END
abbrev pub end_line : Piece
end_line = (0, 46 ∷ 69 ∷ 78 ∷ 68 ∷ [])

-- what a header comes to by itself: an opening line and its continuations, closed at once
abbrev pub header_events : Setting → Piece → List Piece → List Event
header_events S l cs = stretch S 0 (l, cs ++ end_line ∷ [])

-- the opening line l of a table, of which the fields were read as o, and its continuations; nothing of them is refused
pub record Header (S : Setting) (l : Piece) (o : Opened) (cs : List Piece) : Type 0 where
  pub opens : (v : Bool) × ((kind_of l.1 ≡ Opening B v) × (opened S.today B v l ≡ Ok o))
  pub continued : AllByRecursion Continues cs
  pub none : refusals (header_events S l cs) ≡ []

-- the items of the header: those behind the fields of the opening line, and those of the continuations
abbrev pub items_of : Piece → Opened → List Piece → List Piece
items_of l o cs = header_items (behind_fields l (Ok o)) cs

-- what a body line comes to by itself behind this header
abbrev pub line_events : Setting → Piece → Opened → List Piece → Piece → List Event
line_events S l o cs x = body_events S o.common o.terms (items_of l o cs) x

-- a body line of which nothing is refused
abbrev pub LineReads : Setting → Piece → Opened → List Piece → Piece → Type 0
LineReads S l o cs x = Reads S o.common o.terms (items_of l o cs) x

pub record TablesRead : Type 0 where
  -- an opening line and continuations of which nothing is refused are a header, whose items can be read again
  pub header : (S : Setting) (v : Bool) (l : Piece) (cs : List Piece) → kind_of l.1 ≡ Opening B v → AllByRecursion Continues cs → refusals (header_events S l cs) ≡ []
      → (o : Opened) × (Header S l o cs × HeaderRead S o.common o.terms (items_of l o cs))
  -- where something of them is refused, that is all that comes of the table
  pub failed : (S : Setting) (e : ℕ) (v : Bool) (l : Piece) (cs more : List Piece) → kind_of l.1 ≡ Opening B v → AllByRecursion Continues cs → (refusals (header_events S l cs) ≢ [])
      → stretch S e (l, cs ++ more) ≡ header_events S l cs
  -- behind a header each body line that is read comes to its own, up to the line that closes the table
  pub closed : (S : Setting) (e : ℕ) (l : Piece) (o : Opened) (cs ls : List Piece) (x : Piece) (rest : List Piece)
      → Header S l o cs → AllByRecursion (LineReads S l o cs) ls → kind_of x.1 ≡ End → stretch S e (l, cs ++ (ls ++ x ∷ rest)) ≡ flat_map (line_events S l o cs) ls ++ within S e outside rest
  -- a body line that is refused comes to its own too, and is the last
  pub last : (S : Setting) (e : ℕ) (l : Piece) (o : Opened) (cs ls : List Piece) (x : Piece) (rest : List Piece)
      → Header S l o cs → AllByRecursion (LineReads S l o cs) ls → Plain x → (refusals (line_events S l o cs x) ≢ [])
      → stretch S e (l, cs ++ (ls ++ x ∷ rest)) ≡ flat_map (line_events S l o cs) ls ++ line_events S l o cs x
  -- in the body a dotted line is refused, and behind a body line a continuation too; so is a table that is not closed where its lines end
  pub dotted : (S : Setting) (e : ℕ) (l : Piece) (o : Opened) (cs ls : List Piece) (x : Piece) (rest : List Piece)
      → Header S l o cs → AllByRecursion (LineReads S l o cs) ls → (kind_of x.1 ≡ Dotted) ⊎ ((ls ≢ []) × Continues x)
      → stretch S e (l, cs ++ (ls ++ x ∷ rest)) ≡ flat_map (line_events S l o cs) ls ++ refused (Message Unfinished) x.0 ∷ []
  pub unclosed : (S : Setting) (e : ℕ) (l : Piece) (o : Opened) (cs ls : List Piece)
      → Header S l o cs → AllByRecursion (LineReads S l o cs) ls → stretch S e (l, cs ++ ls) ≡ flat_map (line_events S l o cs) ls ++ refused (Message Unfinished) e ∷ []
  -- no fault of a body line stands before the line
  pub own : (S : Setting) (l : Piece) (o : Opened) (cs : List Piece) (x : Piece) → Header S l o cs → AllByRecursion (λ f. x.0 ≤ f.place) (refusals (line_events S l o cs x))
  -- so a text of one table, behind which no line opens or continues a message, comes to its body lines, each by itself
  pub whole : (S : Setting) (text : List ℕ) (l : Piece) (o : Opened) (cs ls : List Piece) (x : Piece) (rest : List Piece)
      → lines text ≡ l ∷ (cs ++ (ls ++ x ∷ rest)) → Header S l o cs → AllByRecursion (LineReads S l o cs) ls → kind_of x.1 ≡ End → AllByRecursion NoOpening rest → AllByRecursion NoContinuation rest
      → events S text ≡ flat_map (line_events S l o cs) ls
