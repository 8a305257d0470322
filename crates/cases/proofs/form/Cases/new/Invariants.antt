use Rattle.std.proofs.Common.{◌≡◌}
use Rattle.std.specs.Str.Iter.{lines_rest}
use Rattle.cases.specs.Lists.{count_of_cases}
use Rattle.cases.proofs.form.Cases.new.Given as goal

-- no case begins in the lines so far
abbrev pub invariant-loop-line : goal.invariant-loop-line
invariant-loop-line l =
    (goal.iterator-loop-line).can_next l.lines × (goal.iterator-loop-line).is_finite l.lines × (count_of_cases (lines_rest l.lines) ≡ count_of_cases l.list)
