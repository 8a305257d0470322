use Rattle.std.proofs.Common.{◌≡◌, ◌-◌, ◌<◌, length, get_or, sym, rules}
use Rattle.reader.proofs.Scan.{with_return, no_return}
use Rattle.reader.proofs.split.read.less_return.Goals as goal

pub returns-in-13 : goal.returns-in-13
returns-in-13 c =
    let some : 0 < length c.args.line.now = search rules in
    let is : get_or c.args.line.now (length c.args.line.now - 1) 0 ≡ 13 = search rules in
    sym (with_return c.args.line.now some is)

pub returns-in_default-2 : goal.returns-in_default-2
returns-in_default-2 c =
    let some : 0 < length c.args.line.now = search rules in
    let is : get_or c.args.line.now (length c.args.line.now - 1) 0 ≡ 13 → ⊥ = search rules in
    sym (no_return c.args.line.now some is)
