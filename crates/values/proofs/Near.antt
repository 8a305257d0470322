-- The rounding is to the nearest.
use Rattle.std.proofs.Common.{◌≡◌, ℕ, zero, suc, ◌+◌, ◌-◌, ◌*◌, ◌/◌, ◌%◌, ◌<◌, ◌≤◌, ltb, pos, negsuc, ◌-ℤ◌, ◌*ℤ◌, neg_ℤ, nat_abs, sym, refl, ap, ◌∙◌, ⊎_elim, mod-lt, mul_assoc, mul_comm, add-mul, mul-zero, mul-suc, arith}
use native.Mathlib.Nat.{div-add-mod, div-eq_of_lt-le}
use Rattle.std.proofs.lemmas.Bool.{cond_both, ltb-true, ltb-false, cases_lt}
use Rattle.values.specs.Conversion.{nearest, rounded, exact, off, Rounds, RoundsOnly, ConvertsToNearest, ConvertsOnly}
use Rattle.values.proofs.Signs.{fraction}

within : (den p : ℕ) → 0 < den → (2 * (den * nearest den p) ≤ 2 * p + den) × (2 * p < 2 * (den * nearest den p) + den)
within den p some =
    let d = div-add-mod (2 * p + den) (2 * den) in
    let l : (2 * p + den) % (2 * den) < 2 * den = mod-lt _ (omega arith) in
    let m = mul_assoc 2 den (nearest den p) in
    (omega arith, omega arith)

apart : (x y : ℕ) → nat_abs (pos x -ℤ pos y) ≡ (x - y) + (y - x)
apart x zero = omega arith
apart x (suc y) = cond_both (ltb x (suc y)) _ _ (λ z. nat_abs z ≡ (x - suc y) + (suc y - x)) (λ e. omega (arith, ltb-true x (suc y) e)) (λ e. omega (arith, ltb-false x (suc y) e))

apart_below : (x y : ℕ) → nat_abs (neg_ℤ (pos x) -ℤ neg_ℤ (pos y)) ≡ (x - y) + (y - x)
apart_below zero zero = refl
apart_below zero (suc y) = omega arith
apart_below (suc x) zero = apart 0 (suc x) ∙ omega arith
apart_below (suc x) (suc y) = apart (suc y) (suc x) ∙ omega arith

across : (x y : ℕ) → nat_abs (neg_ℤ (pos x) -ℤ pos y) ≡ x + y
across zero zero = refl
across zero (suc y) = apart 0 (suc y) ∙ omega arith
across (suc x) zero = apart 0 (suc x) ∙ omega arith
across (suc x) (suc y) = omega arith

over : (x y : ℕ) → nat_abs (pos x -ℤ neg_ℤ (pos y)) ≡ x + y
over x zero = omega arith
over x (suc y) = omega arith

below : (den r : ℕ) → pos den *ℤ neg_ℤ (pos r) ≡ neg_ℤ (pos (den * r))
below den zero = rw mul-zero
below den (suc r) = refl

abs_neg : (r : ℕ) → nat_abs (neg_ℤ (pos r)) ≡ r
abs_neg zero = refl
abs_neg (suc r) = refl

pub is_nearest : Rounds
is_nearest den (pos p) some =
    let w = within den p some in
    let e : off den (pos p) (rounded den (pos p)) ≡ (den * nearest den p - p) + (p - den * nearest den p) = apart (den * nearest den p) p in
    record { near = omega arith; tie = λ t. omega arith }
is_nearest den (negsuc p) some =
    let r : ℕ = nearest den (suc p) in
    let w = within den (suc p) some in
    let e : off den (negsuc p) (rounded den (negsuc p)) ≡ (den * r - suc p) + (suc p - den * r) = ap (λ z. nat_abs (z -ℤ negsuc p)) (below den r) ∙ apart_below (den * r) (suc p) in
    let s : den * nat_abs (rounded den (negsuc p)) ≡ den * r = ap (λ z. den * z) (abs_neg r) in
    record { near = omega arith; tie = λ t. omega arith }

only : (p den r : ℕ) → 0 < den → 2 * (den * r) ≤ 2 * p + den → 2 * p < 2 * (den * r) + den → (2 * p + den) / (2 * den) ≡ r
only p den r some low high =
    let m : r * (2 * den) ≡ 2 * (den * r) = mul_comm r (2 * den) ∙ mul_assoc 2 den r in
    let n : (r + 1) * (2 * den) ≡ 2 * (den * r) + 2 * den = add-mul r 1 (2 * den) ∙ omega arith in
    div-eq_of_lt-le (2 * den) (omega arith) (omega arith)

wide : (den r : ℕ) → den ≤ den * suc r
wide den r = omega (arith, mul-suc den r)

strict : (x y den o : ℕ) → 0 < den → o ≡ (x - y) + (y - x) → 2 * o ≤ den → (2 * o ≡ den → y < x) → 2 * y < 2 * x + den
strict x y den o some e near tie = ⊎_elim (λ h. h) (λ h. absurd (omega (arith, tie (omega arith)))) (cases_lt (2 * y) (2 * x + den))

pub only_nearest : RoundsOnly
only_nearest den (pos p) (pos r) some h =
    let e : off den (pos p) (pos r) ≡ (den * r - p) + (p - den * r) = apart (den * r) p in
    ap pos (sym (only p den r some (omega (arith, h.near)) (strict (den * r) p den _ some e h.near h.tie)))
only_nearest den (pos p) (negsuc r) some h =
    let e : off den (pos p) (negsuc r) ≡ den * suc r + p = across (den * suc r) p in
    absurd (omega (arith, h.near, wide den r))
only_nearest den (negsuc p) (pos zero) some h =
    let z = mul-zero den in
    let e : off den (negsuc p) (pos zero) ≡ den * 0 + suc p = over (den * 0) (suc p) in
    let t : 2 * suc p < 2 * (den * 0) + den = strict (den * 0) (suc p) den _ some (omega arith) h.near h.tie in
    ap (λ m. neg_ℤ (pos m)) (sym (only (suc p) den 0 some (omega arith) t))
only_nearest den (negsuc p) (pos (suc r)) some h =
    let e : off den (negsuc p) (pos (suc r)) ≡ den * suc r + suc p = over (den * suc r) (suc p) in
    absurd (omega (arith, h.near, wide den r))
only_nearest den (negsuc p) (negsuc r) some h =
    let e : off den (negsuc p) (negsuc r) ≡ (den * suc r - suc p) + (suc p - den * suc r) = apart_below (den * suc r) (suc p) in
    ap (λ m. neg_ℤ (pos m)) (sym (only (suc p) den (suc r) some (omega (arith, h.near)) (strict (den * suc r) (suc p) den _ some e h.near h.tie)))

-- an element's denominator is not 0
pub converts_to_nearest : ConvertsToNearest
converts_to_nearest e a = is_nearest e.denominator (exact e a) (fraction e).1

pub converts_only : ConvertsOnly
converts_only e a b = only_nearest e.denominator (exact e a) b (fraction e).1
