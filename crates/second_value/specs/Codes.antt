-- How codes are printed.
use Rattle.std.specs.Prelude.{ℕ, List, [], ◌∷◌, ◌++◌, encode_utf8, flat_map}
use Rattle.second_value.specs.declared.codes.Code.{Code}

-- the letters of the element, then one sign each for the duration, the kind, the source, the extremum and the probability
abbrev pub signs_of : Code → List ℕ
signs_of c = c.element.letters ++ c.duration ∷ c.kind ∷ c.source ∷ c.extremum ∷ c.probability ∷ []

-- each sign as a character
abbrev pub code_text : Code → List ℕ
code_text c = flat_map encode_utf8 (signs_of c)
