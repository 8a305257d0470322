use Rattle.std.proofs.Common.{◌+◌, ◌≤◌}
use Rattle.cases.specs.Lists.{cases_ahead, count_of_cases, with_begun}
use Rattle.trials.proofs.try_list.Given as goal

-- each case so far is counted, and the others are yet ahead
abbrev pub invariant-loop-ahead : goal.invariant-loop-ahead
invariant-loop-ahead g l = count_of_cases l.list ≤ l.whole.texts + with_begun l.ahead (cases_ahead l.cases)

abbrev pub decreases-loop-ahead : goal.decreases-loop-ahead
decreases-loop-ahead g l = with_begun l.ahead (cases_ahead l.cases)
