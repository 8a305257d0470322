-- The sign of a converted amount, and the room that its size takes.
use Rattle.std.proofs.Common.{◌≡◌, ℕ, zero, suc, ◌-◌, ◌*◌, ◌^◌, ◌<◌, ltb, ℤ, pos, negsuc, ◌+ℤ◌, ◌*ℤ◌, neg_ℤ, nat_abs, ◌<ℤ◌, refl, ap, ◌∙◌, arith}
use Rattle.std.proofs.lemmas.Bool.{and_parts, ltb-true}
use Rattle.std.proofs.lemmas.Nat.{mul-lt}
use Rattle.std.proofs.lemmas.Int.{ints}
use Rattle.quantity.specs.declared.element.Element.{Element}
use Rattle.quantity.specs.declared.amount.Amount.{Amount}
use Rattle.values.specs.Conversion.{nearest, rounded, converted}

pub fraction : (e : Element) → (e.numerator < 2 * 10 ^ 6) × (0 < e.denominator) × (e.denominator < 6 * 10 ^ 7) × (e.offset < 10 ^ 6)
fraction e =
    let p = and_parts (ltb e.numerator (2 * 10 ^ 6)) _ e.ok in
    let q = and_parts (ltb 0 e.denominator) _ p.1 in
    let w = and_parts (ltb e.denominator (6 * 10 ^ 7)) _ q.1 in
    (ltb-true _ _ p.0, ltb-true _ _ q.0, ltb-true _ _ w.0, ltb-true _ _ w.1)

pub amount_size : (a : Amount) → nat_abs a.tenthousandths < 10 ^ 12
amount_size a = ltb-true _ _ (and_parts (ltb (nat_abs a.tenthousandths) (10 ^ 12)) _ a.ok).0

pub room : (e : Element) (a : Amount) → (e.numerator * nat_abs a.tenthousandths < 2 * 10 ^ 18) × (e.offset * e.denominator < 6 * 10 ^ 13)
room e a =
    let f = fraction e in
    (mul-lt e.numerator (nat_abs a.tenthousandths) (2 * 10 ^ 6) (10 ^ 12) f.0 (amount_size a), mul-lt e.offset e.denominator (10 ^ 6) (6 * 10 ^ 7) f.3 f.2)

under : (x s : ℕ) → s < x → neg_ℤ (pos x) +ℤ pos s ≡ neg_ℤ (pos (x - s))
under zero s h = absurd (omega arith)
under (suc x) s h = omega (arith, ints)

rounded_below : (den m : ℕ) → 0 < m → rounded den (neg_ℤ (pos m)) ≡ neg_ℤ (pos (nearest den m))
rounded_below den zero h = absurd (omega arith)
rounded_below den (suc m) h = refl

product : (num n s : ℕ) → s < num * suc n → pos num *ℤ negsuc n +ℤ pos s ≡ neg_ℤ (pos (num * suc n - s))
product num n s h = under (num * suc n) s h

pub below_zero : (e : Element) (a : ℤ) → a <ℤ pos 0 → e.offset * e.denominator < e.numerator * nat_abs a → converted e a ≡ neg_ℤ (pos (nearest e.denominator (e.numerator * nat_abs a - e.offset * e.denominator)))
below_zero e (pos n) neg h = absurd (omega (arith, ints))
below_zero e (negsuc n) neg h = ap (rounded e.denominator) (product e.numerator n (e.offset * e.denominator) h) ∙ rounded_below e.denominator _ (omega arith)
