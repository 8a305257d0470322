-- Digits without needless zeros in front are the plain ones.
use Rattle.std.proofs.Common.{◌≡◌, ℕ, zero, suc, ◌+◌, ◌/◌, ◌%◌, ◌^◌, ◌<◌, ◌≤◌, Bool, true, false, cond, eqb, List, [], ◌∷◌, ◌++◌, length, drop, replicate, sym, refl, ap, ◌∙◌, ⊎_elim, pow-suc, arith, length-append}
use Rattle.std.specs.List.{prefix_len}
use Rattle.std.proofs.lemmas.Bool.{cond-true, cond-false, lt-ltb, le-ltb, ne_eqb, cases_lt}
use Rattle.std.proofs.lemmas.List.{drop_at, drop-append-le, replicate_more}
use Rattle.std.proofs.lemmas.List.Sums.{prefix_len-le-length}
use Rattle.values.specs.Writing.{digits, plain}

abbrev pub is_zero : ℕ → Bool
is_zero c = eqb c 48

abbrev pub zeros : ℕ → ℕ → ℕ
zeros k n = prefix_len is_zero (digits k n)

pub long : (k n : ℕ) → length (digits k n) ≡ k
long zero n = refl
long (suc k) n = simp length-append (omega (arith, long k (n / 10)))

all_zero : (k : ℕ) → digits k 0 ≡ replicate k 48
all_zero zero = refl
all_zero (suc k) = ap (λ l. l ++ 48 ∷ []) (all_zero k) ∙ replicate_more k 48 ∙ ap (λ n. replicate n 48) {y = suc k} (omega arith)

counted : (k : ℕ) → prefix_len is_zero (replicate k 48) ≡ k
counted zero = refl
counted (suc k) = ap (λ n. 1 + n) (counted k) ∙ omega arith

-- a last sign that is no zero, and one behind a sign that is none
stops : (xs : List ℕ) (y : ℕ) → is_zero y ≡ false → prefix_len is_zero (xs ++ y ∷ []) ≡ prefix_len is_zero xs
stops [] y e = cond-false _ _ _ e
stops (x ∷ xs) y e = ap (λ n. cond (is_zero x) (1 + n) 0) (stops xs y e)

stopped_by : (b : Bool) (m n k : ℕ) → cond b (1 + n) 0 < suc k → (n < k → m ≡ n) → cond b (1 + m) 0 ≡ cond b (1 + n) 0
stopped_by true m n k h f = ap (λ i. 1 + i) (f (omega arith))
stopped_by false m n k h f = refl

stopped : (xs : List ℕ) (y : ℕ) → prefix_len is_zero xs < length xs → prefix_len is_zero (xs ++ y ∷ []) ≡ prefix_len is_zero xs
stopped [] y h = absurd (omega arith)
stopped (x ∷ xs) y h = stopped_by (is_zero x) (prefix_len is_zero (xs ++ y ∷ [])) (prefix_len is_zero xs) (length xs) h (stopped xs y)

pub few : (k n : ℕ) → zeros k n ≤ k
few k n = omega (arith, prefix_len-le-length is_zero (digits k n), long k n)

-- the last digit of a number other than zero is no needless zero
same : (j n : ℕ) → 0 < n → n < 10 ^ suc j → zeros (suc j) n ≡ zeros j (n / 10)
same zero n some small = stops [] (48 + n % 10) (ne_eqb (48 + n % 10) 48 (λ e. omega arith))
same (suc i) n some small =
    let p = pow-suc 10 (suc i) in
    ⊎_elim (λ d. stops (digits (suc i) (n / 10)) (48 + n % 10) (ne_eqb (48 + n % 10) 48 (λ e. omega arith)))
    (λ d. let s = same i (n / 10) (omega arith) (omega arith) in stopped (digits (suc i) (n / 10)) (48 + n % 10) (omega (arith, s, few i (n / 10 / 10), long (suc i) (n / 10))))
    (cases_lt 0 (n % 10))

pub plain_by : (k m : ℕ) → m < 10 ^ suc k → drop (zeros k (m / 10)) (digits (suc k) m) ≡ plain (suc k) m
plain_by zero m small =
    let d : m % 10 ≡ m = omega arith in
    ap (λ n. (48 + n) ∷ []) d ∙ sym (cond-true _ _ _ (lt-ltb m 10 (omega arith)))
plain_by (suc j) m small =
    let p = pow-suc 10 (suc j) in
    let last : List ℕ = (48 + m % 10) ∷ [] in
    ⊎_elim (λ h.
    let q : m / 10 ≡ 0 = omega arith in
    let d : m % 10 ≡ m = omega arith in
    let all : zeros (suc j) 0 ≡ suc j = ap (prefix_len is_zero) (all_zero (suc j)) ∙ counted (suc j) in
    ap (λ n. drop (zeros (suc j) n) (digits (suc j) n ++ last)) q ∙ drop_at (digits (suc j) 0) last (zeros (suc j) 0) (long (suc j) 0 ∙ sym all)
    ∙ ap (λ n. (48 + n) ∷ []) d ∙ sym (cond-true _ _ _ (lt-ltb m 10 h)))
    (λ h.
    ap (λ z. drop z (digits (suc j) (m / 10) ++ last)) (same j (m / 10) (omega arith) (omega arith))
    ∙ drop-append-le (zeros j (m / 10 / 10)) (digits (suc j) (m / 10)) last (omega (arith, few j (m / 10 / 10), long (suc j) (m / 10)))
    ∙ ap (λ l. l ++ last) (plain_by j (m / 10) (omega arith)) ∙ sym (cond-false _ _ _ (le-ltb m 10 h)))
    (cases_lt m 10)
