-- What each kind of line comes to at each stage of reading, as one table.
use Rattle.std.specs.Prelude.{◌≡◌, ℕ, Bool, true, false, List, [], ◌∷◌, ◌++◌}
use Rattle.reader.specs.Kinds.{kind_of}
use Rattle.reader.specs.Lines.{Piece}
use Rattle.reader.specs.declared.kind.Form.{Form}
use Rattle.reader.specs.declared.kind.LineKind.TheVariants.{Opening, Continuation, End, Dotted, Other}
use Rattle.refusals.specs.declared.Fault.{Fault}
use Rattle.refusals.specs.declared.MessageRefusal.TheVariants as why
use Rattle.refusals.specs.declared.Refusal.TheVariants.{Message}
use Rattle.terms.specs.Standing.{Standing}
use Rattle.events.specs.Events.{Event, fault, refused}
use Rattle.daylight.specs.Settings.{Setting}
use Rattle.messages.specs.Models.{Common, Reached}
use Rattle.stages.specs.Stages.{Stage, outside, skipping, header, body, Moved, onto, refuses, is_table, begins, continues, body_line, next, came, within}
use Rattle.shef.specs.Decodes.{ends_here}
use Rattle.shef.specs.Texts.{cut, end_of, stretches, to_come}

-- what an opening ends before it begins its message: nothing, or a table that was left open, which is refused 13 there
abbrev pub nothing : Piece → List Event
nothing l = []

abbrev pub open_table : Piece → List Event
open_table l = refused (Message why.Unfinished) l.0 ∷ []

-- a line comes to nothing, and the stage behind it is σ
abbrev pub passes : Stage → Piece → Moved
passes σ l = onto σ

-- a line closes the table, or ends the message
abbrev pub closes : Piece → Moved
closes l = onto outside

-- a line is refused 13: a first dot in the body of a table
abbrev pub unfinished : Piece → Moved
unfinished l = refuses (fault (Message why.Unfinished) l.0)

-- a continuation is refused 3: there is nothing to continue
abbrev pub nothing_to_continue : Form → Bool → Piece → Moved
nothing_to_continue f v l = refuses (fault (Message why.Continuation) l.0)

-- a continuation comes to what any dotted line comes to here
abbrev pub like_dotted : (Piece → Moved) → Form → Bool → Piece → Moved
like_dotted dotted f v l = dotted l

-- The row of the stage σ. An opening begins its message at every stage; `ended` is what it ends before.
pub record Row (S : Setting) (σ : Stage) (ended : Piece → List Event) (continued : Form → Bool → Piece → Moved) (closing dotted other : Piece → Moved) : Type 0 where
  pub at_opening : (l : Piece) (f : Form) (v : Bool) → kind_of l.1 ≡ Opening f v → (ends_here σ l ≡ ended l) × (next S σ l ≡ begins S f v l)
  pub at_continuation : (l : Piece) (f : Form) (v : Bool) → kind_of l.1 ≡ Continuation f v → (ends_here σ l ≡ []) × (next S σ l ≡ continued f v l)
  pub at_end : (l : Piece) → kind_of l.1 ≡ End → (ends_here σ l ≡ []) × (next S σ l ≡ closing l)
  pub at_dotted : (l : Piece) → kind_of l.1 ≡ Dotted → (ends_here σ l ≡ []) × (next S σ l ≡ dotted l)
  pub at_other : (l : Piece) → kind_of l.1 ≡ Other → (ends_here σ l ≡ []) × (next S σ l ≡ other l)

pub record LineTable : Type 0 where
  -- in each row: what an opening ends, a continuation, a line that begins with .END, another dotted line, any other line
  pub outside_messages : (S : Setting) → Row S outside nothing nothing_to_continue (passes outside) (passes outside) (passes outside)
  pub behind_refusal : (S : Setting) → Row S skipping nothing (like_dotted (passes skipping)) (passes skipping) (passes skipping) (passes skipping)
  -- in a message that is no table
  pub in_message : (S : Setting) (m : Common) (t : Standing) (p : Reached) (n : ℕ) (hs : List Piece) → is_table m.form ≡ false
      → Row S (header m t p n hs) nothing (continues m t p n hs) closes closes closes
  pub in_table_header : (S : Setting) (m : Common) (t : Standing) (p : Reached) (n : ℕ) (hs : List Piece) → is_table m.form ≡ true
      → Row S (header m t p n hs) open_table (continues m t p n hs) closes unfinished (body_line m t hs)
  pub in_table_body : (S : Setting) (m : Common) (t : Standing) (hs : List Piece) → Row S (body m t hs) open_table (like_dotted unfinished) closes unfinished (body_line m t hs)
  -- A text is read by this table. Behind a line that passes, the rest comes from the stage that it leads to,
  pub passing : (S : Setting) (e : ℕ) (σ τ : Stage) (l : Piece) (ls : List Piece) → next S σ l ≡ onto τ → to_come S e σ (l ∷ ls) ≡ ends_here σ l ++ to_come S e τ ls
  -- and behind one that is refused, from where the next opening is looked for.
  pub refusing : (S : Setting) (e : ℕ) (σ : Stage) (l : Piece) (ls : List Piece) (f : Fault) → next S σ l ≡ refuses f
      → to_come S e σ (l ∷ ls) ≡ ends_here σ l ++ refused f.refusal f.place ∷ to_come S e skipping ls
  -- Any line comes to what it ends, to its own with the lines behind it up to the next opening, and then the other openings come.
  pub line : (S : Setting) (e : ℕ) (σ : Stage) (l : Piece) (ls : List Piece)
      → to_come S e σ (l ∷ ls) ≡ ends_here σ l ++ (came S (next S σ l) (λ τ. within S (end_of e (cut ls).1) τ (cut ls).0) ++ stretches S e (cut ls).1)
