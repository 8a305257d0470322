use Rattle.std.proofs.Common.{◌≡◌, ◌<◌, false, length, sym, subst, arith}
use Rattle.items.proofs.word.next_word.Goals as goal
use Rattle.items.proofs.Words.{word_begins}
use Rattle.items.specs.declared.mark.Run.TheVariants.{Word}
use Rattle.items.specs.Marks.{marks, passes}
use Rattle.std.proofs.lemmas.Bool.{eqb-false}
use Rattle.std.specs.List.{prefix_len}

pub returns-clause-valid : goal.returns-clause-valid
returns-clause-valid c =
    let some : length c.split_at.result.1.now ≡ 0 → ⊥ = eqb-false _ 0 (sym c.if-is_empty.ensures) in
    let lt : c.run_len-lead.result < length c.args.part.now = omega (arith, c.split_at.ensures.back_len, c.run_len-lead.ensures.valid) in
    let begins : 0 < prefix_len (passes Word) (marks false c.split_at.result.1.now) = subst (λ l. 0 < prefix_len (passes Word) (marks false l)) (sym c.split_at.ensures.back) (word_begins false c.args.part.now c.run_len-lead.result (sym c.run_len-lead.ensures.value) lt) in
    (omega arith, omega arith)
