-- What kind of line each is, by how it begins.
use Rattle.std.specs.Prelude.{ℕ, not, cond, ◌&&◌, ◌==◌, nat_le, nat_eq, List, [], ◌∷◌, Option, None, Some, codes}
use Rattle.std.specs.List.{starts_with}
use Rattle.second_text.specs.Letters.{lettered}
use Rattle.second_text.specs.declared.lines.Kind.{Kind}
use Rattle.second_text.specs.declared.lines.Kind.TheVariants.{Opening, Continuation, End, Dotted, Plain}
use Rattle.second_text.specs.declared.lines.Letters.{Letters}

-- behind the letters of a message the end of the line or a blank (32) opens it, and a digit (from 48 on) continues it
abbrev pub kind_behind : Letters → List ℕ → Kind
kind_behind letters [] = Opening letters
kind_behind letters (b ∷ bs) = cond (b == 32) (Opening letters) (cond (nat_le 48 b && nat_le b 57) Continuation Dotted)

abbrev pub kind_by : Option (Letters × List ℕ) → Kind
kind_by None = Dotted
kind_by (Some l) = kind_behind l.0 l.1

abbrev pub kind_of : List ℕ → Kind
kind_of line = cond (not (starts_with nat_eq line (codes "."))) Plain (cond (starts_with nat_eq line (codes ".END")) End (kind_by (lettered line)))
