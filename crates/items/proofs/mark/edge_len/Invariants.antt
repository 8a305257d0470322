use Rattle.std.proofs.Common.{◌≡◌}
use Rattle.items.proofs.mark.edge_len.Given as goal
use Rattle.items.specs.Marks.{passes}
use Rattle.std.specs.List.{suffix_len}

abbrev pub invariant-loop-mark : goal.invariant-loop-mark
invariant-loop-mark l = l.behind ≡ suffix_len (passes l.run) l.yielded
