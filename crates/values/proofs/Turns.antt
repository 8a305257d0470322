-- The turns of the loops that read a number.
use Rattle.std.proofs.Common.{◌≡◌, ℕ, zero, suc, ◌+◌, ◌-◌, ◌*◌, ◌^◌, ◌<◌, ◌≤◌, Bool, true, false, ◌&&◌, eqb, leb, List, [], ◌∷◌, length, get_or, take, drop, cond, not, ltb, ◌==◌, Some, None, sym, refl, ap, ◌∙◌, pow-suc, add-one, arith}
use native.Mathlib.Nat.{pow-le-pow_right}
use Rattle.std.specs.List.{position_or_len, position}
use Rattle.std.proofs.lemmas.List.{at_drop_more, at_drop_all, take_all, drop_all}
use Rattle.std.proofs.lemmas.Bool.{cond-true, cond-false, ltb-true, ltb-false}
use Rattle.std.proofs.lemmas.Option.{cond_some}
use Rattle.std.proofs.lemmas.Bool.Decides.{nat_tests}
use Rattle.text.specs.Signs.{digit}
use Rattle.values.specs.Numbers.{all_digits, said, numeral, before_point, behind_point, size_from, size_of}

pub longer : (n d i : ℕ) → n < 10 ^ i → d < 10 → n * 10 + d < 10 ^ (i + 1)
longer n d i h l = let p = pow-suc 10 i in rw add-one (omega arith)

pub capped : (n i j : ℕ) → n < 10 ^ i → i ≤ j → n < 10 ^ j
capped n i j h l = let p : 10 ^ i ≤ 10 ^ j = pow-le-pow_right (omega arith) l in omega arith

module _ (s : List ℕ) (i : ℕ) (inside : i < length s) where
  pub digits_more : (x : Bool) → all_digits (drop i s) ≡ x → digit (get_or s i 0) ≡ true → all_digits (drop (i + 1) s) ≡ x
  digits_more x inv t = sym (at_drop_more all_digits s i 0 inside ∙ ap (λ b. b && all_digits (drop (i + 1) s)) t) ∙ inv

  pub said_more : (n x : ℕ) → said n (drop i s) ≡ x → said (n * 10 + (get_or s i 0 - 48)) (drop (i + 1) s) ≡ x
  said_more n x inv = sym (at_drop_more (said n) s i 0 inside) ∙ inv

  pub digits_bad : (most : ℕ) → all_digits (drop i s) ≡ all_digits s → digit (get_or s i 0) ≡ false → None ≡ numeral most s
  digits_bad most inv t =
      let f : all_digits s ≡ false = sym inv ∙ at_drop_more all_digits s i 0 inside ∙ ap (λ b. b && all_digits (drop (i + 1) s)) t in
      sym (cond-false _ _ _ (ap (λ b. b && leb (length s) most) f))

module _ (s : List ℕ) (i : ℕ) (past : length s ≤ i) where
  pub numeral_all : (n most : ℕ) → length s ≤ most → all_digits (drop i s) ≡ all_digits s → said n (drop i s) ≡ said 0 s → Some n ≡ numeral most s
  numeral_all n most short inv say =
      let a : all_digits s ≡ true = sym inv ∙ at_drop_all all_digits s i past in
      let b : leb (length s) most ≡ true = grind (arith, nat_tests) in
      ap Some (sym (at_drop_all (said n) s i past) ∙ say) ∙ sym (cond-true _ _ _ (ap (λ t. t && leb (length s) most) a ∙ b))

pub part_size : (n k : ℕ) → n < 10 ^ k → k ≤ 4 → n * 10 ^ (4 - k) < 10000
part_size n zero h l = omega arith
part_size n (suc zero) h l = omega arith
part_size n (suc (suc zero)) h l = omega arith
part_size n (suc (suc (suc zero))) h l = omega arith
part_size n (suc (suc (suc (suc zero)))) h l = omega arith
part_size n (suc (suc (suc (suc (suc k))))) h l = absurd (omega arith)

-- the first point, by its place
abbrev pub is_point : ℕ → Bool
is_point c = c == 46

before_by : (b : Bool) (n c : ℕ) (cs : List ℕ) → take (cond (not b) (1 + n) 0) (c ∷ cs) ≡ cond b [] (c ∷ take n cs)
before_by true n c cs = refl
before_by false n c cs = let s : 1 + n ≡ suc n = omega arith in ap (λ k. take k (c ∷ cs)) s

before : (s : List ℕ) → take (position_or_len is_point s) s ≡ before_point s
before [] = refl
before (c ∷ cs) = before_by (eqb c 46) (position_or_len is_point cs) c cs ∙ ap (λ l. cond (eqb c 46) [] (c ∷ l)) (before cs)

behind_by : (b : Bool) (n c : ℕ) (cs : List ℕ) → drop (cond (not b) (1 + n) 0 + 1) (c ∷ cs) ≡ cond b cs (drop (n + 1) cs)
behind_by true n c cs = refl
behind_by false n c cs = let s : 1 + n + 1 ≡ suc (n + 1) = omega arith in ap (λ k. drop k (c ∷ cs)) s

behind : (s : List ℕ) → drop (position_or_len is_point s + 1) s ≡ behind_point s
behind [] = drop_all 1 [] (omega arith)
behind (c ∷ cs) = behind_by (eqb c 46) (position_or_len is_point cs) c cs ∙ ap (λ l. cond (eqb c 46) cs l) (behind cs)

pub record Parted (s : List ℕ) (place : ℕ) : Type 0 where
  pub within : place < length s
  pub front : take place s ≡ before_point s
  pub back : drop (place + 1) s ≡ behind_point s

pub parted : (s : List ℕ) (place : ℕ) → Some place ≡ position is_point s → Parted s place
parted s place e =
    let p = cond_some (ltb (position_or_len is_point s) (length s)) (position_or_len is_point s) place (sym e) in
    let within : place < length s = omega (arith, ltb-true _ _ p.0, p.1) in
    record { within = within; front = ap (λ k. take k s) (sym p.1) ∙ before s; back = ap (λ k. drop (k + 1) s) (sym p.1) ∙ behind s }

no_place : (b : Bool) (n : ℕ) → None ≡ cond b (Some n) None → b ≡ false
no_place true n e = cc
no_place false n e = refl

pub whole : (s : List ℕ) → None ≡ position is_point s → size_from s [] ≡ size_of s
whole s e =
    let past = ltb-false _ _ (no_place (ltb (position_or_len is_point s) (length s)) (position_or_len is_point s) e) in
    let f : s ≡ before_point s = sym (take_all (position_or_len is_point s) s past) ∙ before s in
    let b : [] ≡ behind_point s = sym (drop_all (position_or_len is_point s + 1) s (omega arith)) ∙ behind s in
    ap (λ l. size_from l []) f ∙ ap (size_from (before_point s)) b
