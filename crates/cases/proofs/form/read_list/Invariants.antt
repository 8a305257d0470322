use Rattle.std.proofs.Common.{◌≡◌, ◌+◌, vec_len}
use Rattle.cases.specs.Lists.{cases_ahead, count_of_cases}
use Rattle.cases.proofs.form.read_list.Given as goal

-- a case is read or yet ahead
abbrev pub invariant-loop-cases : goal.invariant-loop-cases
invariant-loop-cases l = vec_len l.cases + cases_ahead l.ahead ≡ count_of_cases l.list

abbrev pub decreases-loop-cases : goal.decreases-loop-cases
decreases-loop-cases l = cases_ahead l.ahead
