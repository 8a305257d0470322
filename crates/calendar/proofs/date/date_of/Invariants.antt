use Rattle.std.proofs.Common.{◌≡◌, ◌+◌, ◌≤◌}
use Rattle.calendar.specs.Dates.{years_before, months_before}
use Rattle.calendar.proofs.date.date_of.Given as goal

abbrev pub invariant-loop-month : goal.invariant-loop-month
invariant-loop-month l = (1 ≤ l.day) × (years_before l.year + months_before l.year l.month + l.day ≡ l.fn.ordinal)
