-- Texts placed one after the other, and among blanks.
use Rattle.std.proofs.Common.{◌≡◌, ℕ, suc, ◌+◌, ◌-◌, ◌≤◌, List, [], ◌∷◌, ◌++◌, length, take, drop, replicate, sym, ap, ◌∙◌, append_assoc, arith}
use Rattle.std.proofs.lemmas.List.{length-append, take_at, drop_at, drop-drop, drop-replicate}
use Rattle.line.specs.Places.{placed}

-- xs, of n bytes, and then m blanks
pub record Sofar (o xs : List ℕ) (n m : ℕ) : Type 0 where
  pub is : o ≡ xs ++ replicate m 32
  pub long : length xs ≡ n

-- the next field, behind one blank
pub next : {o p xs : List ℕ} {n m : ℕ} (at k : ℕ) (ys zs : List ℕ) → Sofar o xs n m → p ≡ placed o at ys → ys ≡ zs → length zs ≡ k → at ≡ n + 1 → k + 1 ≤ m → Sofar p (xs ++ 32 ∷ zs) (n + 1 + k) (m - (k + 1))
next {o} {p} {xs} {n} {m} at k ys zs s e f l a h =
    let r : List ℕ = replicate (m - 1) 32 in
    let some : m ≡ suc (m - 1) = omega arith in
    let front : List ℕ = xs ++ 32 ∷ [] in
    let split : o ≡ front ++ r = s.is ∙ ap (λ k. xs ++ replicate k 32) some ∙ sym (append_assoc xs (32 ∷ []) r) in
    let long : length front ≡ at = length-append xs (32 ∷ []) ∙ omega (arith, s.long) in
    let before : take at o ≡ front = ap (take at) split ∙ take_at front r at long in
    let after : drop (at + length zs) o ≡ replicate (m - (k + 1)) 32 =
    sym (drop-drop (length zs) at o) ∙ ap (drop (length zs)) (ap (drop at) split ∙ drop_at front r at long) ∙ drop-replicate (length zs) (m - 1) 32 ∙ ap (λ k. replicate k 32) (omega arith) in
    record {
      is = e ∙ ap (placed o at) f ∙ (λ i. before i ++ (zs ++ after i)) ∙ sym (append_assoc front zs _) ∙ ap (λ l. l ++ replicate (m - (k + 1)) 32) (append_assoc xs (32 ∷ []) zs);
      long = length-append xs (32 ∷ zs) ∙ omega (arith, s.long);
    }

-- the first field
pub first : {o p : List ℕ} (m k : ℕ) (ys zs : List ℕ) → o ≡ replicate m 32 → p ≡ placed o 0 ys → ys ≡ zs → length zs ≡ k → Sofar p zs k (m - k)
first {o} {p} m k ys zs b e f l = record {
  is = e ∙ ap (placed o 0) f ∙ ap (λ r. zs ++ r) (ap (λ r. drop (0 + length zs) r) b ∙ drop-replicate (0 + length zs) m 32 ∙ ap (λ n. replicate (m - n) 32) (omega arith));
  long = l;
}
