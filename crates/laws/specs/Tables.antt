-- The body lines of a table, each read by itself.
use Rattle.std.specs.Prelude.{◌≡◌, ℕ, true, List, [], ◌∷◌, ◌++◌, ◌≢◌}
use Rattle.std.specs.List.{flat_map, AllByRecursion}
use Rattle.reader.specs.Kinds.{kind_of}
use Rattle.reader.specs.Lines.{Piece}
use Rattle.reader.specs.declared.kind.LineKind.TheVariants.{End, Other}
use Rattle.terms.specs.Standing.{Standing}
use Rattle.events.specs.Events.{Event}
use Rattle.events.specs.Room.{refusals}
use Rattle.daylight.specs.Settings.{Setting}
use Rattle.messages.specs.Models.{Common, Reached}
use Rattle.stages.specs.Stages.{outside, header, body, is_table, body_line, came, within}

-- what a body line comes to by itself: of its message it is told what the records have in common, the terms of the opening and
-- the items of the header, and of the lines before it nothing
abbrev pub body_events : Setting → Common → Standing → List Piece → Piece → List Event
body_events S m t hs l = came S (body_line m t hs l) (λ _. [])

abbrev pub Plain : Piece → Type 0
Plain l = kind_of l.1 ≡ Other

-- a plain line of which nothing is refused
abbrev pub Reads : Setting → Common → Standing → List Piece → Piece → Type 0
Reads S m t hs l = Plain l × (refusals (body_events S m t hs l) ≡ [])

pub record BodyLines : Type 0 where
  -- lines that are read come each to its own, and the table is then where it was before them
  pub each : (S : Setting) (e : ℕ) (m : Common) (t : Standing) (hs ls more : List Piece)
      → AllByRecursion (Reads S m t hs) ls → within S e (body m t hs) (ls ++ more) ≡ flat_map (body_events S m t hs) ls ++ within S e (body m t hs) more
  -- a line that is refused comes to its own too, and is the last
  pub last : (S : Setting) (e : ℕ) (m : Common) (t : Standing) (hs : List Piece) (l : Piece) (ls : List Piece)
      → Plain l → (refusals (body_events S m t hs l) ≢ []) → within S e (body m t hs) (l ∷ ls) ≡ body_events S m t hs l
  -- the first line starts like any other, however far the header's items have brought the message
  pub first : (S : Setting) (e : ℕ) (m : Common) (t : Standing) (p : Reached) (n : ℕ) (hs : List Piece) (l : Piece) (ls : List Piece)
      → is_table m.form ≡ true → Plain l → within S e (header m t p n hs) (l ∷ ls) ≡ within S e (body m t hs) (l ∷ ls)
  -- so a table behind its header, up to its end, is its lines each by itself
  pub table : (S : Setting) (e : ℕ) (m : Common) (t : Standing) (p : Reached) (n : ℕ) (hs ls : List Piece) (l : Piece) (rest : List Piece)
      → is_table m.form ≡ true → AllByRecursion (Reads S m t hs) ls → kind_of l.1 ≡ End
      → within S e (header m t p n hs) (ls ++ l ∷ rest) ≡ flat_map (body_events S m t hs) ls ++ within S e outside rest
