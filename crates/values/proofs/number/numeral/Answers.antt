use Rattle.std.proofs.Common.{◌≡◌, ◌-◌, ◌^◌, ◌<◌, length, get_or, sym, ◌∙◌, subst, arith, rules}
use Rattle.std.proofs.lemmas.Bool.Decides.{nat_tests}
use Rattle.values.proofs.Turns.{longer, capped, digits_more, said_more, digits_bad, numeral_all}
use Rattle.values.proofs.number.numeral.Goals as goal

pub overflow_mul-n : goal.overflow_mul-n
overflow_mul-n c = let b = capped _ _ 8 c.loop-b.invariant.0 (omega arith) in search rules

pub overflow_add-n : goal.overflow_add-n
overflow_add-n c = let b = capped _ _ 8 c.loop-b.invariant.0 (omega arith) in search rules

pub returns-then-not-is_digit : goal.returns-then-not-is_digit
returns-then-not-is_digit c =
    record { value = digits_bad c.args.digits.now c.loop-b.b-index c.loop-b-test.true c.args.most c.loop-b.invariant.1 (sym c.is_digit.ensures ∙ c.if-not-is_digit.true); small = tt }

pub loop-b-preserved : goal.loop-b-preserved
loop-b-preserved c =
    let t = sym c.is_digit.ensures ∙ c.if-not-is_digit.false in
    let s = c.args.digits.now in
    let i = c.loop-b.b-index in
    let d : get_or s i 0 - 48 < 10 = grind (arith, nat_tests) in
    (longer c.loop-b.n (get_or s i 0 - 48) i c.loop-b.invariant.0 d, digits_more s i c.loop-b-test.true _ c.loop-b.invariant.1 t, said_more s i c.loop-b-test.true c.loop-b.n _ c.loop-b.invariant.2)

pub returns : goal.returns
returns c =
    let s = c.args.digits.now in
    let i = c.loop-b.b-index in
    let e : i ≡ length s = omega arith in
    record {
      value = numeral_all s i c.loop-b-test.false c.loop-b.n c.args.most (omega arith) c.loop-b.invariant.1 c.loop-b.invariant.2;
      small = (subst (λ m. c.loop-b.n < 10 ^ m) e c.loop-b.invariant.0, omega arith);
    }
