-- The cases of a list.
use Rattle.std.specs.Prelude.{ℕ, ◌+◌, Bool, List, Option, None, Some, codes, count_by, nat_eq}
use Rattle.std.specs.List.{starts_with}
use Rattle.std.specs.Str.Iter.{lines_rest}
use Rattle.std.specs.Str.Lines.{lines}
use Rattle.cases.specs.declared.form.Cases.{Cases}

-- whether a line begins a case
abbrev pub begins_case : List ℕ → Bool
begins_case line = starts_with nat_eq line (codes "=== ")

abbrev pub count_of_cases : List ℕ → ℕ
count_of_cases list = count_by begins_case (lines list)

-- a case that has begun, and those behind it
abbrev pub with_begun : {A : Type 0} → Option A → ℕ → ℕ
with_begun None behind = 0
with_begun (Some head) behind = behind + 1

-- how many cases are yet to be read
abbrev pub cases_ahead : Cases → ℕ
cases_ahead cases = with_begun cases.head (count_of_cases (lines_rest cases.lines))
