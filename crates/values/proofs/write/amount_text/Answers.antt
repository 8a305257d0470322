use Rattle.std.proofs.Common.{◌≡◌, ◌-◌, ◌/◌, ◌%◌, ◌^◌, ◌<◌, nat_abs, ltb, take, drop, ap, ◌∙◌, arith, w64, SFits, rules}
use Rattle.std.proofs.lemmas.Int.{ints, to_z-of_z}
use Rattle.std.proofs.lemmas.Bool.{and_parts, ltb-true}
use Rattle.values.proofs.Columns.{columns_are, front_zeros, unsigned, signed, below_zero, from_zero}
use Rattle.values.proofs.write.amount_text.Goals as goal

pub returns-then-tenthousandths-lt0 : goal.returns-then-tenthousandths-lt0
returns-then-tenthousandths-lt0 c =
    let z = c.args.amount.tenthousandths in
    let fits : SFits w64 z = search rules in
    let same = to_z-of_z w64 z fits in
    let size = c.unsigned_abs-size.result in
    let zeros = c.zeros_at_front-zeros.result in
    let is : size ≡ nat_abs z = c.unsigned_abs-size.ensures.value ∙ ap nat_abs same in
    let small : nat_abs z < 10 ^ 12 = ltb-true _ _ (and_parts (ltb (nat_abs z) (10 ^ 12)) _ c.args.amount.ok).0 in
    signed size zeros (omega arith) (c.zeros_at_front-zeros.ensures.value ∙ front_zeros _ (size / 10000) c.digits-whole.ensures) _ _ (c.copy_from_slice.ensures.after ∙ ap (λ l. take (8 - zeros) (drop zeros l)) c.digits-whole.ensures) (columns_are _ (size % 10000) c.digits.ensures)
    ∙ below_zero z size is (omega (arith, ints))

pub returns-else-tenthousandths-lt0 : goal.returns-else-tenthousandths-lt0
returns-else-tenthousandths-lt0 c =
    let z = c.args.amount.tenthousandths in
    let fits : SFits w64 z = search rules in
    let same = to_z-of_z w64 z fits in
    let size = c.unsigned_abs-size.result in
    let zeros = c.zeros_at_front-zeros.result in
    let is : size ≡ nat_abs z = c.unsigned_abs-size.ensures.value ∙ ap nat_abs same in
    let small : nat_abs z < 10 ^ 12 = ltb-true _ _ (and_parts (ltb (nat_abs z) (10 ^ 12)) _ c.args.amount.ok).0 in
    unsigned size zeros (omega arith) (c.zeros_at_front-zeros.ensures.value ∙ front_zeros _ (size / 10000) c.digits-whole.ensures) _ _ (c.copy_from_slice.ensures.after ∙ ap (λ l. take (8 - zeros) (drop zeros l)) c.digits-whole.ensures) (columns_are _ (size % 10000) c.digits.ensures)
    ∙ from_zero z size is (omega (arith, ints))
