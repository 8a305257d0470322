use Rattle.std.proofs.Common.{◌≡◌, false, length, ap, ◌∙◌, sym, arith}
use Rattle.items.proofs.Scan.{length-marks}
use Rattle.items.proofs.mark.edge_len.Goals as goal
use Rattle.items.proofs.mark.edge_len.Goals.{In-None}
use Rattle.items.specs.Marks.{marks, passes}
use Rattle.std.proofs.lemmas.Iterator.Consumers.{YieldsList-end, YieldsList-from_first, YieldsList-turn}
use Rattle.std.proofs.lemmas.List.{map-id}
use Rattle.std.proofs.lemmas.List.Sums.{suffix_len-le-length}
use Rattle.std.specs.List.{suffix_len}

pub overflow_add-behind : goal.overflow_add-behind
overflow_add-behind c =
    let all = marks false c.args.bytes.now in
    let road = YieldsList-from_first (λ m. m) (λ s. marks s.inside s.rest.now) {s = c.into_iter-mark-iterator.result} all (cc) in
    let turn = YieldsList-turn road _ _ c.loop-mark.yielded_by c.next.result c.next.new.self c.in-Some.mark c.in-Some.is c.next.ensures.steps in
    omega (arith, turn.0, c.loop-mark.invariant, suffix_len-le-length (passes c.args.run) c.loop-mark.yielded, length-marks false c.args.bytes.now)

-- all the marks have been read
all_read : (c : In-None) → c.loop-mark.yielded ≡ marks false c.args.bytes.now
all_read c =
    let road = YieldsList-from_first (λ m. m) (λ s. marks s.inside s.rest.now) {s = c.into_iter-mark-iterator.result} (marks false c.args.bytes.now) (cc) in
    sym (map-id c.loop-mark.yielded) ∙ (YieldsList-end road _ _ c.loop-mark.yielded_by c.next.result c.next.new.self c.in-None.is c.next.ensures.steps).0

pub overflow_sub-result : goal.overflow_sub-result
overflow_sub-result c = omega (arith, c.loop-mark.invariant, suffix_len-le-length (passes c.args.run) c.loop-mark.yielded, ap length (all_read c), length-marks false c.args.bytes.now)

pub returns-clause-value : goal.returns-clause-value
returns-clause-value c =
    let is = c.loop-mark.invariant ∙ ap (suffix_len (passes c.args.run)) (all_read c) in
    omega (arith, is, length-marks false c.args.bytes.now)
