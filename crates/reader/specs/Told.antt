-- How a line's beginning tells its kind, its letters and its number, over all beginnings.
use Rattle.std.specs.Prelude.{◌≡◌, ℕ, ◌+◌, ◌-◌, ◌*◌, Bool, true, false, ◌⊎◌, ◌↔◌, List, [], ◌∷◌, ◌++◌, length, take, drop, Some, None, ◌≢◌}
use Rattle.reader.specs.declared.kind.Continuation.{Continuation as Place}
use Rattle.reader.specs.declared.kind.Form.{Form}
use Rattle.reader.specs.declared.kind.Form.TheVariants.{A, B, E}
use Rattle.reader.specs.declared.kind.LineKind.{LineKind}
use Rattle.reader.specs.declared.kind.LineKind.TheVariants.{Opening, Continuation, End, Dotted, Other}
use Rattle.reader.specs.Kinds.{blank_here, continuation_of, kind_of, letters_of}
use Rattle.text.specs.Signs.{digit}

-- the dot, the form's letter, and R for a revision
abbrev pub letter : Form → ℕ
letter A = 65
letter B = 66
letter E = 69

abbrev pub opener : Form → Bool → List ℕ
opener f false = 46 ∷ letter f ∷ []
opener f true = 46 ∷ letter f ∷ 82 ∷ []

-- how a line of a kind begins
abbrev pub Begins : LineKind → List ℕ → Type 0
Begins (Opening f revised) line = (line ≡ opener f revised) ⊎ ((bs : List ℕ) × (line ≡ opener f revised ++ 32 ∷ bs))
Begins (Continuation f revised) line = (d : ℕ) × ((bs : List ℕ) × ((digit d ≡ true) × (line ≡ opener f revised ++ d ∷ bs)))
Begins End line = (bs : List ℕ) × (line ≡ 46 ∷ 69 ∷ 78 ∷ 68 ∷ bs)
Begins Dotted line = (bs : List ℕ) × (line ≡ 46 ∷ bs)
Begins Other line = (bs : List ℕ) → line ≢ 46 ∷ bs

pub record KindsTold : Type 0 where
  pub bare : (f : Form) (revised : Bool) → kind_of (opener f revised) ≡ Opening f revised
  pub opens : (f : Form) (revised : Bool) (bs : List ℕ) → kind_of (opener f revised ++ 32 ∷ bs) ≡ Opening f revised
  pub continues : (f : Form) (revised : Bool) (d : ℕ) (bs : List ℕ) → digit d ≡ true → kind_of (opener f revised ++ d ∷ bs) ≡ Continuation f revised
  pub ends : (bs : List ℕ) → kind_of (46 ∷ 69 ∷ 78 ∷ 68 ∷ bs) ≡ End
  -- and no line of a kind begins otherwise
  pub only : (line : List ℕ) → Begins (kind_of line) line

-- nothing, or a blank before all else
abbrev pub EndOrBlank : List ℕ → Type 0
EndOrBlank rest = (rest ≡ []) ⊎ ((bs : List ℕ) × (rest ≡ 32 ∷ bs))

-- the letters of an opening are the dot, the form's letter, and R where it is a revision; behind them is the end or a blank
abbrev pub LettersTold : Type 0
LettersTold = (line : List ℕ) (f : Form) (revised : Bool) → kind_of line ≡ Opening f revised → (take (letters_of line) line ≡ opener f revised) × EndOrBlank (drop (letters_of line) line)

-- `Numbered line c`: behind a continuation's letters stand one or two digits, and behind these a blank, or the colon of a comment;
-- c has their number, and the place behind them
pub data Numbered : List ℕ → Place → Type 0 where
  one : (f : Form) (revised : Bool) (a b : ℕ) (bs : List ℕ) → digit a ≡ true → blank_here b ≡ true → Numbered (opener f revised ++ a ∷ b ∷ bs) (record { number = a - 48; start = length (opener f revised) + 1 })
  two : (f : Form) (revised : Bool) (a b c : ℕ) (bs : List ℕ) → digit a ≡ true → digit b ≡ true → blank_here c ≡ true → Numbered (opener f revised ++ a ∷ b ∷ c ∷ bs) (record { number = (a - 48) * 10 + (b - 48); start = length (opener f revised) + 2 })

-- a line has a number exactly where it is numbered
pub record NumbersTold : Type 0 where
  pub numbered : (line : List ℕ) (c : Place) → (continuation_of line ≡ Some c) ↔ Numbered line c
  -- so none where it ends behind the digits
  pub one_ends : (f : Form) (revised : Bool) (a : ℕ) → digit a ≡ true → continuation_of (opener f revised ++ a ∷ []) ≡ None
  pub two_end : (f : Form) (revised : Bool) (a b : ℕ) → digit a ≡ true → digit b ≡ true → continuation_of (opener f revised ++ a ∷ b ∷ []) ≡ None
  -- nor where neither a digit nor a blank stands behind the first, or no blank, a third digit too, behind the second
  pub one_runs_on : (f : Form) (revised : Bool) (a b : ℕ) (bs : List ℕ) → digit a ≡ true → digit b ≡ false → blank_here b ≡ false → continuation_of (opener f revised ++ a ∷ b ∷ bs) ≡ None
  pub two_run_on : (f : Form) (revised : Bool) (a b c : ℕ) (bs : List ℕ) → digit a ≡ true → digit b ≡ true → blank_here c ≡ false → continuation_of (opener f revised ++ a ∷ b ∷ c ∷ bs) ≡ None
