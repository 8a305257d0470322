use Rattle.std.proofs.Common.{◌≡◌, ◌-◌, ◌++◌, length, drop}
use Rattle.values.specs.Writing.{digits}
use Rattle.values.proofs.digits.digits.Given as goal

abbrev pub invariant-loop-place : goal.invariant-loop-place
invariant-loop-place g l = (length l.text ≡ g.row.N) × (digits (g.row.N - l.place) l.rest ++ drop (g.row.N - l.place) l.text ≡ digits g.row.N l.fn.number)
