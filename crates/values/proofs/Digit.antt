-- Digits, and what trimming and reading do to them.
use Rattle.std.proofs.Common.{◌≡◌, ℕ, zero, suc, ◌+◌, ◌-◌, ◌*◌, ◌/◌, ◌%◌, ◌^◌, ◌<◌, ◌≤◌, true, ◌&&◌, ltb, List, [], ◌∷◌, ◌++◌, length, drop, set, replicate, Some, None, Option, sym, refl, ap, ◌∙◌, append_assoc, mul_assoc, pow-suc, arith, length-append}
use Rattle.std.specs.List.{AllByRecursion}
use Rattle.std.proofs.ByRecursion.{All-push}
use Rattle.std.proofs.lemmas.List.{drop-set}
use Rattle.std.proofs.lemmas.Bool.{cond-false, cond_both, ltb-true, ne_eqb}
use Rattle.std.proofs.lemmas.Bool.Decides.{nat_tests}
use Rattle.text.specs.Signs.{digit}
use Rattle.values.specs.Numbers.{all_digits, said, before_point, behind_point}
use Rattle.values.specs.Parts.{fraction_text, decimals_of}
use Rattle.values.specs.Writing.{digits, plain, trim_start}

abbrev pub Digit : ℕ → Type 0
Digit c = (48 ≤ c) × (c < 58)

pub said-push : (n : ℕ) (ds : List ℕ) (c : ℕ) → said n (ds ++ (c ∷ [])) ≡ said n ds * 10 + (c - 48)
said-push n [] c = refl
said-push n (d ∷ ds) c = said-push (n * 10 + (d - 48)) ds c

pub digits_are : (k n : ℕ) → AllByRecursion Digit (digits k n)
digits_are zero n = tt
digits_are (suc k) n = All-push Digit (digits k (n / 10)) (48 + n % 10) (digits_are k (n / 10)) (omega arith, omega arith)

-- one digit more, from the last forward
pub digits_more : (w place n : ℕ) (text : List ℕ) → place < w → length text ≡ w → digits (w - place) n ++ drop (w - place) text ≡ digits (w - (place + 1)) (n / 10) ++ drop (w - (place + 1)) (set text (w - 1 - place) (48 + n % 10))
digits_more w place n text below long =
    let k : ℕ = w - (place + 1) in
    let up : w - place ≡ suc k = omega arith in
    let at : w - 1 - place ≡ k = omega arith in
    let next : suc k ≡ k + 1 = omega arith in
    ap (λ m. digits m n ++ drop m text) up ∙ append_assoc (digits k (n / 10)) _ (drop (suc k) text)
    ∙ ap (λ m. digits k (n / 10) ++ ((48 + n % 10) ∷ drop m text)) next ∙ ap (λ l. digits k (n / 10) ++ l) (sym (drop-set text k (48 + n % 10) (omega arith)))
    ∙ ap (λ m. digits k (n / 10) ++ drop k (set text m (48 + n % 10))) (sym at)

pub digits_say : (k m n : ℕ) → n < 10 ^ k → said m (digits k n) ≡ m * 10 ^ k + n
digits_say zero m n h = omega arith
digits_say (suc k) m n h =
    let p = pow-suc 10 k in
    let below : n / 10 < 10 ^ k = omega arith in
    said-push m (digits k (n / 10)) (48 + n % 10) ∙ omega (arith, digits_say k m (n / 10) below, sym (mul_assoc m (10 ^ k) 10), ap (λ x. m * x) p)

pub plain_are : (k n : ℕ) → AllByRecursion Digit (plain k n)
plain_are zero n = tt
plain_are (suc k) n =
    cond_both (ltb n 10) _ _ (AllByRecursion Digit) (λ e. ((omega arith, omega (arith, ltb-true n 10 e)), tt))
    (λ e. All-push Digit (plain k (n / 10)) (48 + n % 10) (plain_are k (n / 10)) (omega arith, omega arith))

pub plain_say : (k n : ℕ) → n < 10 ^ k → said 0 (plain k n) ≡ n
plain_say zero n h = omega arith
plain_say (suc k) n h =
    let p = pow-suc 10 k in
    let below : n / 10 < 10 ^ k = omega arith in
    cond_both (ltb n 10) _ _ (λ l. said 0 l ≡ n) (λ e. omega arith)
    (λ e. said-push 0 (plain k (n / 10)) (48 + n % 10) ∙ omega (arith, plain_say k (n / 10) below))

pub plain_long : (k n : ℕ) → length (plain k n) ≤ k
plain_long zero n = omega arith
plain_long (suc k) n = cond_both (ltb n 10) _ _ (λ l. length l ≤ suc k) (λ e. omega arith) (λ e. simp length-append (omega (arith, plain_long k (n / 10))))

pub trim_start-pad : (n : ℕ) (xs : List ℕ) → trim_start (replicate n 32 ++ xs) ≡ trim_start xs
trim_start-pad zero xs = refl
trim_start-pad (suc n) xs = trim_start-pad n xs

pub all_digits_lem : (ds : List ℕ) → AllByRecursion Digit ds → all_digits ds ≡ true
all_digits_lem [] h = refl
all_digits_lem (d ∷ ds) h = let t : digit d ≡ true = grind (arith, nat_tests) in ap (λ b. b && all_digits ds) t ∙ all_digits_lem ds h.1

pub before_digits : (ds : List ℕ) (f : Option (List ℕ)) → AllByRecursion Digit ds → before_point (ds ++ fraction_text f) ≡ ds
before_digits [] None h = refl
before_digits [] (Some cs) h = refl
before_digits (d ∷ ds) f h = cond-false _ _ _ (ne_eqb d 46 (λ e. omega arith)) ∙ ap (λ l. d ∷ l) (before_digits ds f h.1)

pub behind-digits : (ds : List ℕ) (f : Option (List ℕ)) → AllByRecursion Digit ds → behind_point (ds ++ fraction_text f) ≡ decimals_of f
behind-digits [] None h = refl
behind-digits [] (Some cs) h = refl
behind-digits (d ∷ ds) f h = cond-false _ _ _ (ne_eqb d 46 (λ e. omega arith)) ∙ behind-digits ds f h.1
