use Rattle.std.proofs.Common.{take, ◌+◌, ap, ◌∙◌}
use Rattle.std.proofs.lemmas.List.{take_rest}
use Rattle.values.specs.Numbers.{behind_point, size_from}
use Rattle.values.proofs.Turns.{parted, whole}
use Rattle.values.proofs.number.size_of.Goals as goal

pub returns-in-Some-clause-value : goal.returns-in-Some-clause-value
returns-in-Some-clause-value c =
    let s = c.args.number.now in
    let p = parted s c.in-Some.place c.in-Some.ensures in
    c.size_from.ensures.value ∙ ap (size_from (take c.in-Some.place s)) (take_rest s (c.in-Some.place + 1) ∙ p.back) ∙ ap (λ l. size_from l (behind_point s)) p.front

pub returns-in-None-clause-value : goal.returns-in-None-clause-value
returns-in-None-clause-value c = c.size_from-in-None.ensures.value ∙ whole c.args.number.now c.in-None.ensures
