use Rattle.std.proofs.Common.{◌≡◌}
use Rattle.std.specs.Slice.Iter.{chunks_rest, chunks_size}
use Rattle.ditems.specs.Groups.{set_from}
use Rattle.ditems.proofs.times.set_groups.Given as goal

abbrev pub invariant-loop-pair : goal.invariant-loop-pair
invariant-loop-pair l =
    (chunks_size l.pair-iterator ≡ 2)
    × (set_from l.next l.set (chunks_rest l.pair-iterator) ≡ set_from l.initial.next l.initial.set l.digits)
