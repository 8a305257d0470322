-- A number as it is written is below 10^12 ten-thousandths.
use Rattle.std.proofs.Common.{◌≡◌, ℕ, zero, suc, ◌+◌, ◌-◌, ◌*◌, ◌^◌, ◌<◌, ◌≤◌, Bool, true, false, cond, ◌&&◌, eqb, leb, ltb, List, [], ◌∷◌, length, ℤ, pos, unsigned_abs, Some, None, Option, sym, refl, ap, ◌∙◌, subst, lt_of_lt_of_le, mul-le-mul_right, mul_assoc, mul_comm, pow-suc, leb-true, arith}
use native.Mathlib.Nat.{pow-le-pow_right}
use Rattle.std.proofs.lemmas.Bool.{and_parts}
use Rattle.std.proofs.lemmas.Bool.Decides.{nat_tests}
use Rattle.std.proofs.lemmas.Option.{cond_some}
use Rattle.std.specs.Option.{option_map}
use Rattle.text.specs.Signs.{digit}
use Rattle.quantity.specs.declared.units.Units.TheVariants.{English}
use Rattle.values.specs.Numbers.{all_digits, said, numeral, ten_thousandths, before_point, behind_point, size_of, negated, amount_of}
use Rattle.values.specs.Reading.{number_of}
use Rattle.messages.specs.Refusing.{Outgrown}

one_figure : (c : ℕ) → digit c ≡ true → c - 48 ≤ 9
one_figure c h = grind (arith, nat_tests)

said_small : (cs : List ℕ) (n : ℕ) → all_digits cs ≡ true → said n cs < (n + 1) * 10 ^ length cs
said_small [] n h = omega arith
said_small (c ∷ cs) n h =
    let p = and_parts (digit c) (all_digits cs) h in
    let d = one_figure c p.0 in
    let ih = said_small cs (n * 10 + (c - 48)) p.1 in
    let le : n * 10 + (c - 48) + 1 ≤ (n + 1) * 10 = omega arith in
    let up : (n * 10 + (c - 48) + 1) * 10 ^ length cs ≤ (n + 1) * 10 * 10 ^ length cs = mul-le-mul_right (10 ^ length cs) le in
    let s : (n + 1) * 10 ^ suc (length cs) ≡ (n + 1) * (10 ^ length cs * 10) = ap (λ x. (n + 1) * x) (pow-suc 10 (length cs)) in
    let t : (n + 1) * 10 * 10 ^ length cs ≡ (n + 1) * (10 ^ length cs * 10) = mul_assoc (n + 1) 10 (10 ^ length cs) ∙ ap (λ x. (n + 1) * x) (mul_comm 10 (10 ^ length cs)) in
    subst (λ x. said (n * 10 + (c - 48)) cs < x) (t ∙ sym s) (lt_of_lt_of_le ih up)

tens : (i j : ℕ) → i ≤ j → 10 ^ i ≤ 10 ^ j
tens i j h = pow-le-pow_right (omega arith) h

numeral_small : (most : ℕ) (cs : List ℕ) (n : ℕ) → numeral most cs ≡ Some n → (length cs ≤ most) × (n < 10 ^ length cs)
numeral_small most cs n h =
    let p = cond_some (all_digits cs && leb (length cs) most) (said 0 cs) n h in
    let q = and_parts (all_digits cs) (leb (length cs) most) p.0 in
    let few = said_small cs 0 q.0 in
    (leb-true (length cs) most q.1, subst (λ x. x < 10 ^ length cs) p.1 (omega arith))

decimals_small : (k n : ℕ) → k ≤ 4 → n < 10 ^ k → n * 10 ^ (4 - k) < 10000
decimals_small zero n few h = omega arith
decimals_small (suc zero) n few h = omega arith
decimals_small (suc (suc zero)) n few h = omega arith
decimals_small (suc (suc (suc zero))) n few h = omega arith
decimals_small (suc (suc (suc (suc zero)))) n few h = omega arith
decimals_small (suc (suc (suc (suc (suc k))))) n few h = absurd (omega arith)

sum_small : (k : ℕ) (w d : Option ℕ) (n : ℕ) → ((x : ℕ) → w ≡ Some x → x < 10 ^ 8) → ((x : ℕ) → d ≡ Some x → (k ≤ 4) × (x < 10 ^ k)) → ten_thousandths k w d ≡ Some n → n < 10 ^ 12
sum_small k None d n hw hd h = cc
sum_small k (Some x) None n hw hd h = cc
sum_small k (Some x) (Some y) n hw hd h =
    let same : x * 10000 + y * 10 ^ (4 - k) ≡ n = cc in
    let few = hd y refl in
    omega (arith, same, hw x refl, decimals_small k y few.0 few.1)

cond_is : {A : Type 0} (b : Bool) (o : Option A) (x : A) → cond b o None ≡ Some x → o ≡ Some x
cond_is true o x h = h
cond_is false o x h = cc

size_small : (cs : List ℕ) (n : ℕ) → size_of cs ≡ Some n → n < 10 ^ 12
size_small cs n h =
    let w = before_point cs in
    let d = behind_point cs in
    sum_small (length d) (numeral 8 w) (numeral 4 d) n
    (λ x e. let p = numeral_small 8 w x e in lt_of_lt_of_le p.1 (tens (length w) 8 p.0)) (λ x e. numeral_small 4 d x e)
    (cond_is (ltb 0 (length w + length d)) (ten_thousandths (length d) (numeral 8 w) (numeral 4 d)) n h)

plus_small : (o : Option ℕ) (z : ℤ) → ((n : ℕ) → o ≡ Some n → n < 10 ^ 12) → option_map pos o ≡ Some z → unsigned_abs z < 10 ^ 12
plus_small None z small h = cc
plus_small (Some n) z small h = let same : pos n ≡ z = cc in subst (λ y. unsigned_abs y < 10 ^ 12) same (small n refl)

negated_abs : (n : ℕ) → unsigned_abs (negated n) ≡ n
negated_abs zero = refl
negated_abs (suc n) = refl

minus_small : (o : Option ℕ) (z : ℤ) → ((n : ℕ) → o ≡ Some n → n < 10 ^ 12) → option_map negated o ≡ Some z → unsigned_abs z < 10 ^ 12
minus_small None z small h = cc
minus_small (Some n) z small h = let same : negated n ≡ z = cc in subst (λ y. unsigned_abs y < 10 ^ 12) same (subst (λ k. k < 10 ^ 12) (sym (negated_abs n)) (small n refl))

sign_small : (m p : Bool) (c : ℕ) (cs : List ℕ) (z : ℤ)
    → cond m (option_map negated (size_of cs)) (cond p (option_map pos (size_of cs)) (option_map pos (size_of (c ∷ cs)))) ≡ Some z → unsigned_abs z < 10 ^ 12
sign_small true p c cs z h = minus_small (size_of cs) z (size_small cs) h
sign_small false true c cs z h = plus_small (size_of cs) z (size_small cs) h
sign_small false false c cs z h = plus_small (size_of (c ∷ cs)) z (size_small (c ∷ cs)) h

amount_small : (cs : List ℕ) (z : ℤ) → amount_of cs ≡ Some z → unsigned_abs z < 10 ^ 12
amount_small [] z h = cc
amount_small (c ∷ cs) z h = sign_small (eqb c 45) (eqb c 43) c cs z h

pub english : (code text : List ℕ) → Outgrown code English text → ⊥
english code text o = let few = amount_small (number_of text) o.amount o.says in let many = o.large in omega arith
