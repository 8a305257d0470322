-- The names of stations and sources.
use Rattle.std.specs.Prelude.{ℕ, ◌-◌, Bool, true, cond, ◌&&◌, List, [], ◌∷◌, ◌++◌, length, replicate, Some, None, Option, ◌==◌, nat_le, slice_index}
use Rattle.std.specs.List.{list_all}
use Rattle.text.specs.Signs.{sign}

abbrev pub blanks : List ℕ → Bool
blanks = list_all (λ c. c == 32)

-- signs, and then blanks
abbrev pub signs_then_blanks : List ℕ → Bool
signs_then_blanks [] = true
signs_then_blanks (c ∷ cs) = cond (sign c) (signs_then_blanks cs) (blanks (c ∷ cs))

-- a name in eight columns: three to eight signs, padded with blanks on the right
abbrev pub station_text : List ℕ → Bool
station_text cs = length cs == 8 && (sign (slice_index cs 2) && signs_then_blanks cs)

-- nothing but signs
abbrev pub signs : List ℕ → Bool
signs = list_all sign

-- the name that a word of three to eight signs is, in eight columns
abbrev pub station_of : List ℕ → Option (List ℕ)
station_of word = cond (nat_le 3 (length word) && (nat_le (length word) 8 && signs word)) (Some (word ++ replicate (8 - length word) 32)) None
