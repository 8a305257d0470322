use Rattle.std.proofs.Common.{length, arith}
use Rattle.values.proofs.Turns.{part_size, capped}
use Rattle.values.proofs.number.size_from.Goals as goal

pub returns-clause-small : goal.returns-clause-small
returns-clause-small c =
    let u = c.in_ok-units.ensures.small in
    let p = c.in_ok-parts.ensures.small in
    let big = capped c.in_ok-units.units (length c.args.whole.now) 8 u.0 (omega (arith, u.1)) in
    let small = part_size c.in_ok-parts.parts (length c.args.decimals.now) p.0 p.1 in
    rw c.pow.ensures (omega arith)
