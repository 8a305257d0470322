use Rattle.std.proofs.Common.{◌∙◌, ◌+◌, sym, ap}
use Rattle.std.specs.Str.Iter.{lines_rest}
use Rattle.cases.proofs.Taken.{with_one, one_taken, none_taken, fewer_lines}
use Rattle.cases.proofs.form.Cases.next_case.Goals as goal

pub returns-then-is_some-clause-given : goal.returns-then-is_some-clause-given
returns-then-is_some-clause-given c =
    let here = c.in-Some-next.ensures.steps.0 in
    let is = c.if-is_some.ensures in
    let one = one_taken _ (lines_rest c.loop-line.self.lines) c.in-Some-next.line.now (lines_rest c.next.new.self) here.0 here.2 c.head_of-self.ensures (sym is) in
    c.loop-line.invariant.1 ∙ ap (λ n. n + 1) (one ∙ sym (with_one c.head_of-self.result _ (sym is)))

pub loop-line-smaller : goal.loop-line-smaller
loop-line-smaller c =
    let here = c.in-Some-next.ensures.steps.0 in
    fewer_lines (lines_rest c.loop-line.self.lines) c.in-Some-next.line.now (lines_rest c.next.new.self) here.0 here.2

pub loop-line-preserved : goal.loop-line-preserved
loop-line-preserved c =
    let here = c.in-Some-next.ensures.steps.0 in
    let is = c.if-is_some.ensures in
    let none = none_taken _ (lines_rest c.loop-line.self.lines) c.in-Some-next.line.now (lines_rest c.next.new.self) here.0 here.2 c.head_of-self.ensures (sym is) in
    (sym is, c.loop-line.invariant.1 ∙ ap (λ n. n + 1) none)
