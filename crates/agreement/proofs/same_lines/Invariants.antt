use Rattle.std.proofs.Common.{◌≡◌, flat_map, take}
use Rattle.agreement.specs.Agreement.{ended}
use Rattle.agreement.proofs.same_lines.Given as goal

-- the lines so far, each with its line feed
abbrev pub invariant-loop-line : goal.invariant-loop-line
invariant-loop-line l = l.wanted.items ≡ flat_map ended (take l.line-index l.lines)
