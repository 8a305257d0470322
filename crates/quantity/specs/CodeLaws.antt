-- Laws of parameter codes and of the tables behind them.
use Rattle.std.specs.Prelude.{◌≡◌, ℕ, ◌<◌, ◌≤◌, ◌≢◌, ◌↔◌, true, List, [], ◌∷◌, ◌++◌, length, AllPairs, Some, slice_index, slice_index_or}
use Rattle.quantity.specs.declared.element.Element.{Element}
use Rattle.quantity.specs.Elements.{elements, element_of}
use Rattle.quantity.specs.Codes.{full_code, code_of, variable_number, variable_of}

-- what a code means is a full code
abbrev pub Full : Type 0
Full = (cs full : List ℕ) → code_of cs ≡ Some full → full_code full ≡ true

-- a full code means itself
abbrev pub Itself : Type 0
Itself = (cs : List ℕ) → full_code cs ≡ true → code_of cs ≡ Some cs

-- a missing end means the same as Z
abbrev pub Ends : Type 0
Ends = (cs : List ℕ) → 2 ≤ length cs → length cs < 7 → code_of (cs ++ 90 ∷ []) ≡ code_of cs

-- the letters of an element alone are a code, with the element's own duration, type R and Z behind them
abbrev pub Alone : Type 0
Alone = (a b : ℕ) (e : Element) → element_of a b ≡ Some e → code_of (a ∷ b ∷ []) ≡ Some (a ∷ b ∷ e.duration ∷ 82 ∷ 90 ∷ 90 ∷ 90 ∷ [])

-- a sign becomes what Z means there if it is Z, and stays otherwise
pub record Becomes (meant sign after : ℕ) : Type 0 where
  pub is_z : sign ≡ 90 → after ≡ meant
  pub stays : sign ≢ 90 → after ≡ sign

-- the signs of a full code, from those of a code of the element: duration Z means the element's own and type Z means R, all others stay, and missing ends are Z
pub record Completes (e : Element) (cs full : List ℕ) : Type 0 where
  pub seven : length full ≡ 7
  pub duration : Becomes e.duration (slice_index_or cs 2 90) (slice_index full 2)
  pub type_letter : Becomes 82 (slice_index_or cs 3 90) (slice_index full 3)
  pub others : (place : ℕ) → place < 7 → place ≢ 2 → place ≢ 3 → slice_index full place ≡ slice_index_or cs place 90

abbrev pub Means : Type 0
Means = (cs full : List ℕ) (e : Element) → element_of (slice_index cs 0) (slice_index cs 1) ≡ Some e → code_of cs ≡ Some full → Completes e cs full

-- no two rows of the table have the same letters
abbrev pub RowsDiffer : Type 0
RowsDiffer = AllPairs (λ e f. (e.first ≡ f.first) × (e.second ≡ f.second) → ⊥) elements

-- some letter and two digits of a DV item give the number
pub record Given (n : ℕ) : Type 0 where
  pub letter : ℕ
  pub two : ℕ
  pub gives : variable_of letter two ≡ Some n

-- the numbers that DV items give are 00nn, 10nn, 20nn, 30nn, 40nn and 60nn
abbrev pub VariableNumbers : Type 0
VariableNumbers = (n : ℕ) → (variable_number n ≡ true) ↔ Given n
