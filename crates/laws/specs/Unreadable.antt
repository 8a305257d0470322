-- Lines that may not be read: longer than 1,000 bytes, or with a byte outside 32 to 126.
use Rattle.std.specs.Prelude.{◌≡◌, ◌≤◌, ℕ, Bool, true, false, List, ◌∷◌, ◌++◌, length}
use Rattle.std.specs.List.{AllByRecursion}
use Rattle.reader.specs.Kinds.{kind_of, readable}
use Rattle.reader.specs.Lines.{Piece}
use Rattle.reader.specs.declared.kind.LineKind.{LineKind}
use Rattle.reader.specs.declared.kind.LineKind.TheVariants.{Opening, Continuation, End, Dotted, Other}
use Rattle.refusals.specs.declared.MessageRefusal.TheVariants as why
use Rattle.refusals.specs.declared.Refusal.TheVariants.{Message}
use Rattle.events.specs.Events.{fault, refused}
use Rattle.daylight.specs.Settings.{Setting}
use Rattle.stages.specs.Stages.{Stage, outside, skipping, header, body, refuses, is_table, next}
use Rattle.shef.specs.Decodes.{ends_here}
use Rattle.shef.specs.Texts.{to_come}

-- whether a message may go on: its last line was its opening or a continuation
abbrev pub may_continue : Stage → Bool
may_continue outside = false
may_continue skipping = false
may_continue (header m t p n hs) = true
may_continue (body m t hs) = false

-- whether a line without a first dot is one of a table's body
abbrev pub takes_body_lines : Stage → Bool
takes_body_lines outside = false
takes_body_lines skipping = false
takes_body_lines (header m t p n hs) = is_table m.form
takes_body_lines (body m t hs) = true

-- the lines of a message that hold something: an opening, a continuation inside a message, a body line without a first dot
abbrev pub holds : Stage → LineKind → Bool
holds σ (Opening f v) = true
holds σ (Continuation f v) = may_continue σ
holds σ End = false
holds σ Dotted = false
holds σ Other = takes_body_lines σ

pub record UnreadableRefused : Type 0 where
  -- which lines may be read
  pub fit : (line : List ℕ) → readable line ≡ true → (length line ≤ 1000) × AllByRecursion (λ b. (32 ≤ b) × (b ≤ 126)) line
  pub fits : (line : List ℕ) → length line ≤ 1000 → AllByRecursion (λ b. (32 ≤ b) × (b ≤ 126)) line → readable line ≡ true
  -- any other that should hold something is refused 2 at its first byte, whatever stands in it,
  pub first : (S : Setting) (σ : Stage) (l : Piece) → holds σ (kind_of l.1) ≡ true → readable l.1 ≡ false → next S σ l ≡ refuses (fault (Message why.Unreadable) l.0)
  -- and comes to nothing else, but for a table left open that it ends.
  pub alone : (S : Setting) (e : ℕ) (σ : Stage) (l : Piece) (ls : List Piece) → holds σ (kind_of l.1) ≡ true → readable l.1 ≡ false
      → to_come S e σ (l ∷ ls) ≡ ends_here σ l ++ refused (Message why.Unreadable) l.0 ∷ to_come S e skipping ls
  -- Any other line goes by its place and its kind alone: one that may not be read does what one that may does.
  pub elsewhere : (S : Setting) (σ : Stage) (l : Piece) (line : List ℕ) → holds σ (kind_of l.1) ≡ false → kind_of line ≡ kind_of l.1
      → (next S σ (l.0, line) ≡ next S σ l) × (ends_here σ (l.0, line) ≡ ends_here σ l)
