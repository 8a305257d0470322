-- What a line is by how it begins, the number of a continuation, and which lines may be read at all.
use Rattle.std.specs.Prelude.{ℕ, ◌+◌, ◌-◌, Bool, true, false, cond, ◌&&◌, ◌||◌, List, [], ◌∷◌, length, drop, Some, None, Option, ◌==◌, nat_le}
use Rattle.reader.specs.declared.kind.Continuation.{Continuation as Place}
use Rattle.reader.specs.declared.kind.Form.{Form}
use Rattle.reader.specs.declared.kind.Form.TheVariants.{A, B, E}
use Rattle.reader.specs.declared.kind.LineKind.{LineKind}
use Rattle.reader.specs.declared.kind.LineKind.TheVariants.{Opening, Continuation, End, Dotted, Other}
use Rattle.std.specs.List.{list_all}
use Rattle.std.specs.Option.{option_map}
use Rattle.text.specs.Signs.{digit, pair_of}

-- behind the form's letter, and R if it is there: a blank or the end opens a message, a digit continues one
abbrev pub numbered : Form → Bool → List ℕ → LineKind
numbered f revised [] = Opening f revised
numbered f revised (b ∷ bs) = cond (b == 32) (Opening f revised) (cond (digit b) (Continuation f revised) Dotted)

-- behind the form's letter: R marks a revision
abbrev pub revisable : Form → List ℕ → LineKind
revisable f [] = Opening f false
revisable f (b ∷ bs) = cond (b == 82) (numbered f true bs) (numbered f false (b ∷ bs))

-- behind ".E": ND makes it ".END"
abbrev pub ending : List ℕ → LineKind
ending [] = revisable E []
ending (n ∷ []) = revisable E (n ∷ [])
ending (n ∷ d ∷ bs) = cond (n == 78 && d == 68) End (revisable E (n ∷ d ∷ bs))

-- behind the dot
abbrev pub lettered : List ℕ → LineKind
lettered [] = Dotted
lettered (b ∷ bs) = cond (b == 65) (revisable A bs) (cond (b == 66) (revisable B bs) (cond (b == 69) (ending bs) Dotted))

abbrev pub kind_of : List ℕ → LineKind
kind_of [] = Other
kind_of (b ∷ bs) = cond (b == 46) (lettered bs) Other

-- how many bytes the dot, the form's letter and R, if it is there, take
abbrev pub letters_of : List ℕ → ℕ
letters_of [] = 0
letters_of (a ∷ []) = 1
letters_of (a ∷ b ∷ []) = 2
letters_of (a ∷ b ∷ c ∷ bs) = cond (c == 82) 3 2

-- a blank, or the colon that opens a comment, which reads as one
abbrev pub blank_here : ℕ → Bool
blank_here b = b == 32 || b == 58

-- a number of two digits with a blank behind it, and how many bytes it takes
abbrev pub two_figures : ℕ → ℕ → List ℕ → Option (ℕ × ℕ)
two_figures a b [] = None
two_figures a b (c ∷ bs) = cond (blank_here c) (option_map (λ n. (n, 2)) (pair_of a b)) None

-- the number of one or two digits that the bytes begin with, a blank behind it, and how many bytes it takes
abbrev pub figures : List ℕ → Option (ℕ × ℕ)
figures [] = None
figures (a ∷ []) = None
figures (a ∷ b ∷ bs) = cond (blank_here b) (cond (digit a) (Some (a - 48, 1)) None) (two_figures a b bs)

abbrev pub placed : ℕ → ℕ × ℕ → Place
placed letters n = record { number = n.0; start = letters + n.1 }

abbrev pub is_continuation : LineKind → Bool
is_continuation (Opening f revised) = false
is_continuation (Continuation f revised) = true
is_continuation End = false
is_continuation Dotted = false
is_continuation Other = false

-- the number of a continuation, and the place behind it
abbrev pub continuation_of : List ℕ → Option Place
continuation_of line = cond (is_continuation (kind_of line)) (option_map (placed (letters_of line)) (figures (drop (letters_of line) line))) None

abbrev pub printable : ℕ → Bool
printable b = nat_le 32 b && nat_le b 126

abbrev pub all_printable : List ℕ → Bool
all_printable bs = list_all printable bs

abbrev pub readable : List ℕ → Bool
readable line = nat_le (length line) 1000 && all_printable line
