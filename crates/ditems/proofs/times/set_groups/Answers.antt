use Rattle.std.proofs.Common.{◌≡◌, length, get_or, sym, ap, ◌∙◌, arith}
use Rattle.std.specs.Slice.Iter.{chunks_rest}
use Rattle.ditems.specs.Groups.{set_from}
use Rattle.ditems.proofs.Sets.{pair_off, set_one}
use Rattle.ditems.proofs.times.set_groups.Goals as goal

pub loop-pair-preserved : goal.loop-pair-preserved
loop-pair-preserved c =
    let pair = c.in-Some.pair.now in
    let rest = chunks_rest c.next.new.self in
    let steps = c.in-Some.ensures.steps in
    let two : length c.in-Some.pair.now ≡ 2 = omega arith in
    let one = set_one c.loop-pair.next _ c.loop-pair.set _ c.in_ok-group.group (get_or pair 0 0) (get_or pair 1 0) c.in_ok-n.n rest c.in_ok-n.ensures.value c.in_ok-group.was c.in_ok-set.ensures c.next-next.ensures in (
      steps.0 ∙ c.loop-pair.invariant.0,
      sym (ap (set_from c.loop-pair.next c.loop-pair.set) (pair_off (chunks_rest c.loop-pair.pair-iterator) pair rest steps.1.0 two) ∙ one) ∙ c.loop-pair.invariant.1,
    )
