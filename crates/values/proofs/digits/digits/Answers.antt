use Rattle.std.proofs.Common.{sym, ◌∙◌}
use Rattle.std.proofs.lemmas.List.{length-set}
use Rattle.values.proofs.Digit.{digits_more}
use Rattle.values.proofs.digits.digits.Goals as goal

pub loop-place-preserved : goal.loop-place-preserved
loop-place-preserved g c =
    let l = c.loop-place in
    (length-set l.text _ _ ∙ l.invariant.0, sym (digits_more g.row.N l.place l.rest l.text c.loop-place-test.true l.invariant.0) ∙ l.invariant.1)
