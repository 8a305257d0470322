-- Lines that neither open nor continue a message, in front of a text, behind one and between two.
use Rattle.std.specs.Prelude.{◌≡◌, ℕ, ◌+◌, Bool, true, false, not, List, [], ◌∷◌, ◌++◌, length, ◌≢◌}
use Rattle.std.specs.List.{AllByRecursion}
use Rattle.reader.specs.Kinds.{kind_of}
use Rattle.reader.specs.Lines.{Piece, lines}
use Rattle.reader.specs.declared.kind.LineKind.{LineKind}
use Rattle.reader.specs.declared.kind.LineKind.TheVariants.{Opening, Continuation, End, Dotted, Other}
use Rattle.refusals.specs.declared.MessageRefusal.TheVariants.{Unfinished}
use Rattle.refusals.specs.declared.Refusal.TheVariants.{Message}
use Rattle.events.specs.Events.{fault}
use Rattle.events.specs.Room.{refusals}
use Rattle.daylight.specs.Settings.{Setting}
use Rattle.stages.specs.Stages.{is_table}
use Rattle.shef.specs.Texts.{events}
use Rattle.laws.specs.Outside.{NoOpening, NoContinuation}
use Rattle.joining.specs.Joining.{shifted_events, EndsLine, opens_first}

-- a text of which no line opens a message and none continues one
abbrev pub Ordinary : List ℕ → Type 0
Ordinary text = AllByRecursion NoOpening (lines text) × AllByRecursion NoContinuation (lines text)

-- a text at whose end no table is open: nothing is refused there for want of .END
abbrev pub NoneOpen : Setting → List ℕ → Type 0
NoneOpen S text = AllByRecursion (λ f. f ≢ fault (Message Unfinished) (length text)) (refusals (events S text))

-- a line that opens a message which is no table
abbrev pub opens_no_table : LineKind → Bool
opens_no_table (Opening f v) = not (is_table f)
opens_no_table (Continuation f v) = false
opens_no_table End = false
opens_no_table Dotted = false
opens_no_table Other = false

-- the lines of one message, which is no table
abbrev pub OneMessage : List Piece → Type 0
OneMessage [] = ⊥
OneMessage (l ∷ ls) = (opens_no_table (kind_of l.1) ≡ true) × AllByRecursion NoOpening ls

pub record OrdinaryLines : Type 0 where
  -- in front of a text they add nothing
  pub front : (S : Setting) (plain text : List ℕ) → EndsLine plain → Ordinary plain → events S (plain ++ text) ≡ shifted_events (length plain) (events S text)
  -- nor behind one at whose end no table is open, whatever message they end
  pub behind : (S : Setting) (text plain : List ℕ) → EndsLine text → NoneOpen S text → Ordinary plain → events S (text ++ plain) ≡ events S text
  -- nor between two, of which the second begins with an opening
  pub between : (S : Setting) (first plain second : List ℕ) → EndsLine first → NoneOpen S first → EndsLine plain → Ordinary plain → opens_first (lines second) ≡ true
      → events S (first ++ (plain ++ second)) ≡ events S first ++ shifted_events (length first + length plain) (events S second)
  -- no table is open where the last opening is no .B, whatever stands before it
  pub none_open : (S : Setting) (before message : List ℕ) → EndsLine before → OneMessage (lines message) → NoneOpen S (before ++ message)
