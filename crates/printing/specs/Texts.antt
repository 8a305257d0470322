-- How bytes, pieces of lines and kinds of lines are printed.
use Rattle.std.specs.Prelude.{ℕ, Bool, cond, ◌&&◌, List, [], ◌∷◌, ◌++◌, length, codes, ◌==◌, nat_le}
use Rattle.std.specs.Fmt.{decimal}
use Rattle.std.specs.List.{flat_map}
use Rattle.reader.specs.Kinds.{kind_of, readable}
use Rattle.reader.specs.Lines.{Piece}
use Rattle.reader.specs.Told.{letter}
use Rattle.reader.specs.declared.kind.Form.{Form}
use Rattle.reader.specs.declared.kind.LineKind.{LineKind}
use Rattle.reader.specs.declared.kind.LineKind.TheVariants.{Opening, Continuation, End, Dotted, Other}

-- a byte is printed as it is, or with a backslash (92) by n, r or its number
abbrev pub sign_text : ℕ → List ℕ
sign_text b = cond (b == 10) (92 ∷ 110 ∷ []) (cond (b == 13) (92 ∷ 114 ∷ []) (cond (nat_le 32 b && nat_le b 126) (b ∷ []) (92 ∷ decimal b)))

-- of more than 80 bytes the number alone
abbrev pub shown : List ℕ → List ℕ
shown bs = cond (nat_le (length bs) 80) (flat_map sign_text bs) (decimal (length bs) ++ codes " bytes")

-- a piece has its place before it, and its bytes between < and >
abbrev pub piece_text : Piece → List ℕ
piece_text q = codes " " ++ decimal q.0 ++ codes "<" ++ shown q.1 ++ codes ">"

-- the form's letter, and R for a revision
abbrev pub form_text : Form → Bool → List ℕ
form_text f revised = letter f ∷ cond revised (codes "R") []

abbrev pub kind_text : LineKind → List ℕ
kind_text (Opening f revised) = codes "opening " ++ form_text f revised
kind_text (Continuation f revised) = codes "continuation " ++ form_text f revised
kind_text End = codes "end"
kind_text Dotted = codes "dotted"
kind_text Other = codes "other"

abbrev pub state_text : List ℕ → List ℕ
state_text line = cond (readable line) (codes "readable") (codes "unreadable")

-- a line's place, its length, its kind, and whether it may be read
abbrev pub heading_text : Piece → List ℕ
heading_text l = codes " " ++ decimal l.0 ++ codes "+" ++ decimal (length l.1) ++ codes " " ++ kind_text (kind_of l.1) ++ codes ", " ++ state_text l.1
