-- What a text comes to: what stands before its first opening, and then one stretch of lines for each opening, each read by itself.
use Rattle.std.specs.Prelude.{ℕ, Bool, true, false, List, [], ◌∷◌, ◌++◌, length}
use Rattle.reader.specs.Kinds.{kind_of}
use Rattle.reader.specs.Lines.{Piece, lines}
use Rattle.reader.specs.declared.kind.LineKind.{LineKind}
use Rattle.reader.specs.declared.kind.LineKind.TheVariants.{Opening, Continuation, End, Dotted, Other}
use Rattle.events.specs.Events.{Event}
use Rattle.daylight.specs.Settings.{Setting}
use Rattle.stages.specs.Stages.{Stage, outside, next, came, within}

abbrev pub is_opening : LineKind → Bool
is_opening (Opening f v) = true
is_opening (Continuation f v) = false
is_opening End = false
is_opening Dotted = false
is_opening Other = false

-- an opening line, and the lines up to the next one
abbrev pub Stretch : Type 0
Stretch = Piece × List Piece

-- one line more in front
abbrev pub on_front : Bool → Piece → List Piece × List Stretch → List Piece × List Stretch
on_front true l c = ([], (l, c.0) ∷ c.1)
on_front false l c = (l ∷ c.0, c.1)

-- the lines before the first opening, and the stretches
abbrev pub cut : List Piece → List Piece × List Stretch
cut [] = ([], [])
cut (l ∷ ls) = on_front (is_opening (kind_of l.1)) l (cut ls)

-- where a stretch ends: at the next opening, or at the text's end e
abbrev pub end_of : ℕ → List Stretch → ℕ
end_of e [] = e
end_of e (s ∷ ss) = s.0.0

abbrev pub stretch : Setting → ℕ → Stretch → List Event
stretch S e s = came S (next S outside s.0) (λ σ. within S e σ s.1)

abbrev pub stretches : Setting → ℕ → List Stretch → List Event
stretches S e [] = []
stretches S e (s ∷ ss) = stretch S (end_of e ss) s ++ stretches S e ss

-- what is left to come of a text that ends at e, from a stage on
abbrev pub to_come : Setting → ℕ → Stage → List Piece → List Event
to_come S e σ ls = within S (end_of e (cut ls).1) σ (cut ls).0 ++ stretches S e (cut ls).1

abbrev pub events : Setting → List ℕ → List Event
events S text = to_come S (length text) outside (lines text)
