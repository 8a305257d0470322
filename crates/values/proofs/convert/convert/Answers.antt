use Rattle.std.proofs.Common.{◌≡◌, ◌-◌, ◌*◌, ◌<◌, pos, ◌-ℤ◌, neg_ℤ, nat_abs, ◌<ℤ◌, sym, ap, ◌∙◌, subst, arith, w64, SFits, to_z, of_z, rules}
use Rattle.std.proofs.lemmas.Int.{ints, to_z-of_z}
use Rattle.values.specs.Conversion.{nearest}
use Rattle.values.proofs.Signs.{room, below_zero}
use Rattle.values.proofs.convert.convert.Goals as goal

pub overflow_add-scaled : goal.overflow_add-scaled
overflow_add-scaled c =
    let a = c.args.amount.tenthousandths in
    let fits : SFits w64 a = search rules in
    let n : c.unsigned_abs.result ≡ nat_abs a = c.unsigned_abs.ensures.value ∙ ap nat_abs (to_z-of_z w64 a fits) in
    let r = room c.args.element c.args.amount in
    let p = ap (λ m. c.args.element.numerator * m) n in
    search rules

pub returns-else-scaled-shift : goal.returns-else-scaled-shift
returns-else-scaled-shift c =
    let a = c.args.amount.tenthousandths in
    let e = c.args.element in
    let k = c.nearest-else-scaled-shift.result in
    let fits : SFits w64 a = search rules in
    let t = to_z-of_z w64 a fits in
    let n : c.unsigned_abs.result ≡ nat_abs a = c.unsigned_abs.ensures.value ∙ ap nat_abs t in
    let neg : a <ℤ pos 0 = omega (arith, ints) in
    let big : e.offset * e.denominator < e.numerator * nat_abs a = subst (λ m. e.offset * e.denominator < e.numerator * m) n c.if-scaled-shift.false in
    let v : to_z w64 (of_z w64 (pos 0 -ℤ to_z w64 k)) ≡ neg_ℤ (pos k) = omega (arith, ints) in
    v ∙ ap (λ m. neg_ℤ (pos m)) (c.nearest-else-scaled-shift.ensures.value ∙ ap (λ m. nearest e.denominator (e.numerator * m - e.offset * e.denominator)) n) ∙ sym (below_zero e a neg big)
