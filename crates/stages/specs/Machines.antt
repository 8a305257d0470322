-- What the reader's own states stand for.
use Rattle.std.specs.Prelude.{◌≡◌, ℕ, List, take, drop}
use Rattle.merging.specs.Headers.{header_items}
use Rattle.items.specs.Steps.{items_ahead}
use Rattle.messages.specs.Models.{common, reached}
use Rattle.reader.specs.Lines.{Piece, lines_ahead}
use Rattle.terms.specs.Standing.{standing}
use Rattle.stages.specs.Stages.{Stage, outside, skipping, header, body}
use Rattle.stages.specs.declared.stage.Machine.{Machine}
use Rattle.stages.specs.declared.stage.Stage.{Stage as Held}
use Rattle.stages.specs.declared.stage.Stage.TheVariants as held

-- the items of the header up to its n-th continuation
abbrev pub header_of : Machine → ℕ → List Piece
header_of m n = header_items (items_ahead m.opening) (take n (lines_ahead m.lines))

abbrev pub stage_with : Held → (ℕ → List Piece) → Stage
stage_with held.Outside hs = outside
stage_with held.Skipping hs = skipping
stage_with (held.Header o) hs = header (common o.message) (standing o.terms) (reached o.progress) o.number (hs o.number)
stage_with (held.Body o) hs = body (common o.message) (standing o.terms) (hs o.number)

abbrev pub stage_of : Machine → Stage
stage_of m = stage_with m.stage (header_of m)

-- in a header, the lines ls that are yet to come follow the continuations that have been read
abbrev pub TiedAt : Held → List Piece → List Piece → Type 0
TiedAt held.Outside ahead ls = Unit {0}
TiedAt held.Skipping ahead ls = Unit {0}
TiedAt (held.Header o) ahead ls = drop o.number ahead ≡ ls
TiedAt (held.Body o) ahead ls = Unit {0}

abbrev pub Tied : Machine → List Piece → Type 0
Tied m ls = TiedAt m.stage (lines_ahead m.lines) ls
