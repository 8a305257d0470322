-- A parameter, as its code and its duration number.
use Rattle.std.specs.Prelude.{ℕ, cond, ◌&&◌, List, Some, None, Option, slice_index}
use Rattle.quantity.specs.declared.parameter.Parameter.{Parameter}
use Rattle.quantity.specs.Codes.{full_code, duration_fits, number_for}

abbrev pub measured : Parameter → List ℕ × ℕ
measured p = (p.code.signs, p.duration)

abbrev pub with_number : List ℕ → Option ℕ → Option (List ℕ × ℕ)
with_number code None = None
with_number code (Some n) = Some (code, n)

-- the parameter of a full code, where DV gives the number v or none is in force
abbrev pub parameter_of : List ℕ → Option ℕ → Option (List ℕ × ℕ)
parameter_of code v = with_number code (number_for (slice_index code 2) v)

-- seven signs and a number, where they are a full code and its number
abbrev pub parameter_from : List ℕ → ℕ → Option (List ℕ × ℕ)
parameter_from code n = cond (full_code code && duration_fits code n) (Some (code, n)) None
