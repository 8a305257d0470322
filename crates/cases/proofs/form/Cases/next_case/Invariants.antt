use Rattle.std.proofs.Common.{◌≡◌, ◌+◌, false, is_some, length}
use Rattle.std.specs.Str.Iter.{lines_rest}
use Rattle.std.specs.Str.Lines.{lines}
use Rattle.cases.specs.Lists.{cases_ahead, count_of_cases}
use Rattle.cases.proofs.form.Cases.next_case.Given as goal

-- the case that is being read is the one that was ahead
abbrev pub invariant-loop-line : goal.invariant-loop-line
invariant-loop-line l = (is_some l.self.head ≡ false) × (cases_ahead l.fn.self ≡ count_of_cases (lines_rest l.self.lines) + 1)

abbrev pub decreases-loop-line : goal.decreases-loop-line
decreases-loop-line l = length (lines (lines_rest l.self.lines))
