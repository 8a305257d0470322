-- The columns of an amount, with the digits that it needs put into blanks.
use Rattle.std.proofs.Common.{◌≡◌, ℕ, ◌+◌, ◌-◌, ◌/◌, ◌%◌, ◌^◌, ◌<◌, ◌≤◌, List, [], ◌∷◌, ◌++◌, length, get_or, take, drop, set, replicate, ℤ, pos, negsuc, nat_abs, ◌<ℤ◌, ◌≤ℤ◌, Some, sym, ap, ◌∙◌, append_assoc, arith, length-append}
use borrow.Rule.Slice.PartMut.{put_mid}
use Rattle.std.specs.List.{prefix_len}
use Rattle.std.proofs.lemmas.Int.{ints}
use Rattle.std.proofs.lemmas.List.{set_at, replicate_more, length-replicate, length-drop, drop-drop, take-append-le, take-replicate, take_all, take_at}
use Rattle.values.specs.Writing.{digits, plain, size_text, pad_left, written}
use Rattle.values.proofs.Zeros.{is_zero, zeros, few, long, plain_by}

-- blanks, the point and the decimals
abbrev pub columns : ℕ → List ℕ
columns r = replicate 9 32 ++ (46 ∷ digits 4 r)

pub columns_are : (f : List ℕ) (r : ℕ) → f ≡ digits 4 r
    → 32 ∷ 32 ∷ 32 ∷ 32 ∷ 32 ∷ 32 ∷ 32 ∷ 32 ∷ 32 ∷ 46 ∷ get_or f 0 0 ∷ get_or f 1 0 ∷ get_or f 2 0 ∷ get_or f 3 0 ∷ [] ≡ columns r
columns_are f r g = λ i. 32 ∷ 32 ∷ 32 ∷ 32 ∷ 32 ∷ 32 ∷ 32 ∷ 32 ∷ 32 ∷ 46 ∷ get_or (g i) 0 0 ∷ get_or (g i) 1 0 ∷ get_or (g i) 2 0 ∷ get_or (g i) 3 0 ∷ []

pub front_zeros : (w : List ℕ) (m : ℕ) → w ≡ digits 8 m → prefix_len is_zero (take 7 w) ≡ zeros 7 (m / 10)
front_zeros w m e = ap (λ l. prefix_len is_zero (take 7 l)) e ∙ ap (prefix_len is_zero) (take_at (digits 7 (m / 10)) ((48 + m % 10) ∷ []) 7 (long 7 (m / 10)))

module _ (size z : ℕ) (small : size < 10 ^ 12) (is : z ≡ zeros 7 (size / 10000 / 10)) where
  seven : z ≤ 7
  seven = omega (arith, few 7 (size / 10000 / 10))

  kept : drop z (digits 8 (size / 10000)) ≡ plain 8 (size / 10000)
  kept = ap (λ k. drop k (digits 8 (size / 10000))) is ∙ plain_by 7 (size / 10000) (omega arith)

  wide : length (size_text size) + z ≡ 13
  wide =
      let d = length-drop z (digits 8 (size / 10000)) in
      let k = ap length kept in
      omega (arith, seven, long 8 (size / 10000), long 4 (size % 10000), length-append (plain 8 (size / 10000)) (46 ∷ digits 4 (size % 10000)))

  placed : (figures cs : List ℕ) → figures ≡ take (8 - z) (drop z (digits 8 (size / 10000))) → cs ≡ columns (size % 10000) → put_mid (z + 1) (9 - (z + 1)) cs figures ≡ replicate (z + 1) 32 ++ size_text size
  placed figures cs f g =
      let le : z + 1 ≤ 9 = omega (arith, seven) in
      let tail : List ℕ = 46 ∷ digits 4 (size % 10000) in
      let front : take (z + 1) cs ≡ replicate (z + 1) 32 = ap (take (z + 1)) g ∙ take-append-le (z + 1) (replicate 9 32) tail le ∙ take-replicate (z + 1) 9 32 le in
      let behind : drop (9 - (z + 1)) (drop (z + 1) cs) ≡ tail = drop-drop (9 - (z + 1)) (z + 1) cs ∙ ap (λ n. drop n cs) {y = 9} (omega (arith, seven)) ∙ ap (drop 9) g in
      let whole : List ℕ = drop z (digits 8 (size / 10000)) in
      let part : figures ≡ plain 8 (size / 10000) = f ∙ take_all (8 - z) whole (omega (arith, length-drop z (digits 8 (size / 10000)), long 8 (size / 10000))) ∙ kept in
      λ i. front i ++ (part i ++ behind i)

  pub unsigned : (figures cs : List ℕ) → figures ≡ take (8 - z) (drop z (digits 8 (size / 10000))) → cs ≡ columns (size % 10000) → put_mid (z + 1) (9 - (z + 1)) cs figures ≡ pad_left 14 (size_text size)
  unsigned figures cs f g = placed figures cs f g ∙ ap (λ n. replicate n 32 ++ size_text size) {y = 14 - length (size_text size)} (omega (arith, wide))

  pub signed : (figures cs : List ℕ) → figures ≡ take (8 - z) (drop z (digits 8 (size / 10000))) → cs ≡ columns (size % 10000) → set (put_mid (z + 1) (9 - (z + 1)) cs figures) z 45 ≡ pad_left 14 (45 ∷ size_text size)
  signed figures cs f g =
      let split : replicate (z + 1) 32 ++ size_text size ≡ replicate z 32 ++ (32 ∷ size_text size) = ap (λ l. l ++ size_text size) (sym (replicate_more z 32)) ∙ append_assoc (replicate z 32) (32 ∷ []) (size_text size) in
      ap (λ l. set l z 45) (placed figures cs f g ∙ split) ∙ set_at (replicate z 32) 32 (size_text size) 45 z (length-replicate z 32)
      ∙ ap (λ n. replicate n 32 ++ (45 ∷ size_text size)) {y = 14 - length (45 ∷ size_text size)} (omega (arith, wide))

pub below_zero : (z : ℤ) (n : ℕ) → n ≡ nat_abs z → z <ℤ pos 0 → pad_left 14 (45 ∷ size_text n) ≡ written (Some z)
unfolding written
below_zero (pos m) n e h = absurd (omega (arith, ints))
below_zero (negsuc m) n e h = ap (λ k. pad_left 14 (45 ∷ size_text k)) e

pub from_zero : (z : ℤ) (n : ℕ) → n ≡ nat_abs z → pos 0 ≤ℤ z → pad_left 14 (size_text n) ≡ written (Some z)
unfolding written
from_zero (pos m) n e h = ap (λ k. pad_left 14 (size_text k)) e
from_zero (negsuc m) n e h = absurd (omega (arith, ints))
