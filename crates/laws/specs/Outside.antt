-- Lines that add nothing to a text.
use Rattle.std.specs.Prelude.{◌≡◌, ℕ, true, false, List, [], ◌∷◌, ◌++◌, length, ◌≢◌}
use Rattle.std.specs.List.{AllByRecursion}
use Rattle.reader.specs.Kinds.{kind_of, is_continuation}
use Rattle.reader.specs.Lines.{Piece, lines}
use Rattle.refusals.specs.declared.MessageRefusal.TheVariants.{Continuation}
use Rattle.refusals.specs.declared.Refusal.TheVariants.{Message}
use Rattle.terms.specs.Standing.{Standing}
use Rattle.events.specs.Events.{Event, refused}
use Rattle.events.specs.Room.{refusals}
use Rattle.daylight.specs.Settings.{Setting}
use Rattle.messages.specs.Models.{Common, Reached}
use Rattle.stages.specs.Stages.{Stage, outside, skipping, header, is_table, next, came, within}
use Rattle.shef.specs.Texts.{is_opening, cut, stretches, to_come, events}

abbrev pub NoOpening : Piece → Type 0
NoOpening l = is_opening (kind_of l.1) ≡ false

abbrev pub NoContinuation : Piece → Type 0
NoContinuation l = is_continuation (kind_of l.1) ≡ false

abbrev pub Continues : Piece → Type 0
Continues l = is_continuation (kind_of l.1) ≡ true

-- what a line comes to by itself
abbrev pub alone : Setting → Stage → Piece → List Event
alone S σ l = came S (next S σ l) (λ _. [])

pub record LinesOutside : Type 0 where
  -- outside messages
  pub between : (S : Setting) (e : ℕ) (ls : List Piece) → AllByRecursion NoOpening ls → AllByRecursion NoContinuation ls → within S e outside ls ≡ []
  -- behind a message that is no table, which the first of them ends
  pub ending : (S : Setting) (e : ℕ) (m : Common) (t : Standing) (p : Reached) (n : ℕ) (hs ls : List Piece)
      → is_table m.form ≡ false → AllByRecursion NoOpening ls → AllByRecursion NoContinuation ls → within S e (header m t p n hs) ls ≡ []
  -- a continuation behind them has nothing to continue, and is the one refusal
  pub late : (S : Setting) (e : ℕ) (m : Common) (t : Standing) (p : Reached) (n : ℕ) (hs : List Piece) (l : Piece) (ls : List Piece) (c : Piece) (more : List Piece)
      → is_table m.form ≡ false → AllByRecursion NoOpening (l ∷ ls) → AllByRecursion NoContinuation (l ∷ ls) → Continues c
      → within S e (header m t p n hs) (l ∷ ls ++ c ∷ more) ≡ refused (Message Continuation) c.0 ∷ []
  -- where the next opening is looked for, of whatever kind they are
  pub skipped : (S : Setting) (e : ℕ) (ls : List Piece) → AllByRecursion NoOpening ls → within S e skipping ls ≡ []
  -- behind a line that is refused, up to the next opening
  pub behind : (S : Setting) (e : ℕ) (σ : Stage) (l : Piece) (ls : List Piece) → (refusals (alone S σ l) ≢ []) → within S e σ (l ∷ ls) ≡ alone S σ l
  -- in front of any text
  pub front : (S : Setting) (e : ℕ) (ls more : List Piece) → AllByRecursion NoOpening ls → AllByRecursion NoContinuation ls → to_come S e outside (ls ++ more) ≡ to_come S e outside more
  -- a text comes to what its openings come to, if what stands before the first has no continuation
  pub preface : (S : Setting) (text : List ℕ) → AllByRecursion NoContinuation (cut (lines text)).0 → events S text ≡ stretches S (length text) (cut (lines text)).1
  -- a text with neither an opening nor a continuation comes to nothing
  pub nothing : (S : Setting) (text : List ℕ) → AllByRecursion NoOpening (lines text) → AllByRecursion NoContinuation (lines text) → events S text ≡ []
