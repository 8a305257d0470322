-- Parameter codes and duration numbers.
use Rattle.std.specs.Prelude.{ℕ, ◌+◌, ◌/◌, Bool, false, cond, not, ◌&&◌, ◌||◌, List, [], ◌∷◌, length, is_some, Some, None, Option, ◌==◌, nat_le, nat_lt, slice_index, slice_index_or}
use Rattle.std.specs.List.{find}
use Rattle.std.specs.Option.{option_map}
use Rattle.text.specs.Signs.{capital, sign}
use Rattle.quantity.specs.declared.element.Element.{Element}
use Rattle.quantity.specs.Elements.{element_of}

-- the duration letters that stand for one number each
unfoldable pub durations : List (ℕ × ℕ)
durations =
    (73, 0) ∷  -- I
    (85, 1) ∷  -- U
    (67, 15) ∷  -- C
    (74, 30) ∷  -- J
    (72, 1001) ∷  -- H
    (66, 1002) ∷  -- B
    (84, 1003) ∷  -- T
    (70, 1004) ∷  -- F
    (81, 1006) ∷  -- Q
    (65, 1008) ∷  -- A
    (75, 1012) ∷  -- K
    (76, 1018) ∷  -- L
    (68, 2001) ∷  -- D
    (87, 2007) ∷  -- W
    (77, 3001) ∷  -- M
    (89, 4001) ∷  -- Y
    (83, 5001) ∷  -- S
    (82, 5002) ∷  -- R
    (80, 5004) ∷  -- P
    (88, 5005) ∷  -- X
    []

abbrev pub number_in : ℕ → List (ℕ × ℕ) → Option ℕ
number_in letter ds = option_map (λ d. d.1) (find (λ d. d.0 == letter) ds)

-- the number of a fixed duration
abbrev pub duration_number : ℕ → Option ℕ
duration_number letter = number_in letter durations

-- V, the duration that a DV item gives
abbrev pub is_variable : ℕ → Bool
is_variable letter = letter == 86

-- a duration letter other than Z
abbrev pub is_duration : ℕ → Bool
is_duration letter = is_variable letter || is_some (duration_number letter)

-- a number that a DV item can give: minutes, hours, days, months, years or 60nn, with two digits
abbrev pub variable_number : ℕ → Bool
variable_number n = n / 100 == 0 || (n / 100 == 10 || (n / 100 == 20 || (n / 100 == 30 || (n / 100 == 40 || n / 100 == 60))))

-- a type letter other than Z
abbrev pub is_type : ℕ → Bool
is_type letter = capital letter && not (letter == 90)

-- seven signs: an element, a duration, a type, a source, an extremum and a probability
abbrev pub full_code : List ℕ → Bool
full_code cs = length cs == 7 && (is_some (element_of (slice_index cs 0) (slice_index cs 1)) && (is_duration (slice_index cs 2) && (is_type (slice_index cs 3) && (sign (slice_index cs 4) && (sign (slice_index cs 5) && sign (slice_index cs 6))))))

abbrev pub is_just : Option ℕ → ℕ → Bool
is_just None n = false
is_just (Some m) n = m == n

-- the number n goes with the duration letter
abbrev pub goes_with : ℕ → ℕ → Bool
goes_with letter n = cond (is_variable letter) (variable_number n) (is_just (duration_number letter) n)

-- the number n goes with the duration of a code
abbrev pub duration_fits : List ℕ → ℕ → Bool
duration_fits code n = goes_with (slice_index code 2) n

-- a sign or, where it is Z, what Z means there
abbrev pub unless_z : ℕ → ℕ → ℕ
unless_z meant c = cond (c == 90) meant c

-- all seven signs of a code of an element: missing ends are Z, duration Z means the element's own and type Z means R
abbrev pub completed : Element → List ℕ → List ℕ
completed e cs = slice_index_or cs 0 90 ∷ slice_index_or cs 1 90 ∷ unless_z e.duration (slice_index_or cs 2 90) ∷ unless_z 82 (slice_index_or cs 3 90) ∷ slice_index_or cs 4 90 ∷ slice_index_or cs 5 90 ∷ slice_index_or cs 6 90 ∷ []

-- seven signs, where they are a full code
abbrev pub checked_code : List ℕ → Option (List ℕ)
checked_code cs = cond (full_code cs) (Some cs) None

abbrev pub code_of_element : Option Element → List ℕ → Option (List ℕ)
code_of_element None cs = None
code_of_element (Some e) cs = checked_code (completed e cs)

-- the full code that two to seven signs mean
abbrev pub code_of : List ℕ → Option (List ℕ)
code_of cs = cond (nat_le 2 (length cs) && nat_le (length cs) 7) (code_of_element (element_of (slice_index cs 0) (slice_index cs 1)) cs) None

-- the thousands of a DV item's letter: N minutes, H hours, D days, M months, Y years, E 60nn
abbrev pub variable_base : ℕ → Option ℕ
variable_base unit = cond (unit == 78) (Some 0) (cond (unit == 72) (Some 1000) (cond (unit == 68) (Some 2000) (cond (unit == 77) (Some 3000) (cond (unit == 89) (Some 4000) (cond (unit == 69) (Some 6000) None)))))

abbrev pub plus : ℕ → Option ℕ → Option ℕ
plus n None = None
plus n (Some base) = Some (base + n)

-- the number that a DV item gives by its letter and its two digits
abbrev pub variable_of : ℕ → ℕ → Option ℕ
variable_of unit two = cond (nat_lt two 100) (plus two (variable_base unit)) None

-- the duration number of a letter, where DV gives the number v or none is in force
abbrev pub number_for : ℕ → Option ℕ → Option ℕ
number_for letter v = cond (is_variable letter) v (duration_number letter)
