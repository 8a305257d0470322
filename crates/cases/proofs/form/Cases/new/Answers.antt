use Rattle.std.proofs.Common.{◌∙◌, sym}
use Rattle.std.specs.Str.Iter.{lines_rest}
use Rattle.cases.proofs.Taken.{with_one, one_taken, none_taken}
use Rattle.cases.proofs.form.Cases.new.Goals as goal

pub returns-then-is_some : goal.returns-then-is_some
returns-then-is_some c =
    let here = c.in-Some.ensures.steps.0 in
    let is = c.if-is_some.ensures in
    with_one c.head_of-head.result _ (sym is) ∙ sym (one_taken _ (lines_rest c.loop-line.lines) c.in-Some.line.now (lines_rest c.next.new.self) here.0 here.2 c.head_of-head.ensures (sym is)) ∙ c.loop-line.invariant.2

pub loop-line-preserved : goal.loop-line-preserved
loop-line-preserved c =
    let here = c.in-Some.ensures.steps.0 in
    let is = c.if-is_some.ensures in
    (tt, tt, sym (none_taken _ (lines_rest c.loop-line.lines) c.in-Some.line.now (lines_rest c.next.new.self) here.0 here.2 c.head_of-head.ensures (sym is)) ∙ c.loop-line.invariant.2)
