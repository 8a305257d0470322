-- Names in eight columns.
use Rattle.std.proofs.Common.{◌≡◌, ℕ, zero, suc, ◌-◌, ◌≤◌, Bool, true, false, cond, sym, ◌+◌, List, [], ◌∷◌, ◌++◌, length, get_or, drop, replicate, refl, ap, ◌∙◌, arith, length-append}
use lib.ListN.{length-replicate}
use Rattle.std.proofs.lemmas.Bool.{cond-true, eq-eqb, and_parts, and_from}
use Rattle.std.proofs.lemmas.List.{drop-replicate}
use Rattle.std.specs.List.{prefix_len}
use Rattle.text.specs.Signs.{sign}
use Rattle.record.specs.Stations.{blanks, signs, signs_then_blanks, station_text}

-- blanks stand behind the signs at the front
behind_by : (b : Bool) (n c : ℕ) (cs : List ℕ) → cond b (blanks (drop n cs)) (blanks (c ∷ cs)) ≡ blanks (drop (cond b (1 + n) 0) (c ∷ cs))
behind_by true n c cs = let s : 1 + n ≡ suc n = omega arith in ap (λ k. blanks (drop k (c ∷ cs))) (sym s)
behind_by false n c cs = refl

pub behind_signs : (cs : List ℕ) → signs_then_blanks cs ≡ blanks (drop (prefix_len sign cs) cs)
behind_signs [] = refl
behind_signs (c ∷ cs) = ap (λ b. cond (sign c) b (blanks (c ∷ cs))) (behind_signs cs) ∙ behind_by (sign c) (prefix_len sign cs) c cs

blanks_are : (n : ℕ) → blanks (replicate n 32) ≡ true
blanks_are zero = refl
blanks_are (suc n) = blanks_are n

then_blanks : (n : ℕ) → signs_then_blanks (replicate n 32) ≡ true
then_blanks zero = refl
then_blanks (suc n) = blanks_are n

signs_then : (w : List ℕ) (n : ℕ) → signs w ≡ true → signs_then_blanks (w ++ replicate n 32) ≡ true
signs_then [] n e = then_blanks n
signs_then (c ∷ cs) n e = cond-true _ _ _ (and_parts (sign c) (signs cs) e).0 ∙ signs_then cs n (and_parts (sign c) (signs cs) e).1

third : (w xs : List ℕ) → signs w ≡ true → 3 ≤ length w → sign (get_or (w ++ xs) 2 0) ≡ true
third [] xs e h = absurd (omega arith)
third (a ∷ []) xs e h = absurd (omega arith)
third (a ∷ b ∷ []) xs e h = absurd (omega arith)
third (a ∷ b ∷ c ∷ w) xs e h = (and_parts (sign c) (signs w) (and_parts (sign b) (signs (c ∷ w)) (and_parts (sign a) (signs (b ∷ c ∷ w)) e).1).1).0

pub padded : (w : List ℕ) → signs w ≡ true → 3 ≤ length w → length w ≤ 8 → station_text (w ++ replicate (8 - length w) 32) ≡ true
padded w e h k =
    let r : length (replicate {A = ℕ} (8 - length w) 32) ≡ 8 - length w = length-replicate (8 - length w) 32 in
    let long : length (w ++ replicate (8 - length w) 32) ≡ 8 = length-append w (replicate (8 - length w) 32) ∙ omega arith in
    and_from _ _ (eq-eqb _ 8 long) (and_from _ _ (third w (replicate (8 - length w) 32) e h) (signs_then w (8 - length w) e))

-- a word over eight blanks
pub columns : (w text : List ℕ) → text ≡ w → length w ≤ 8 → text ++ drop (length w) (replicate 8 32) ≡ w ++ replicate (8 - length w) 32
columns w text e h = ap (λ l. l ++ drop (length w) (replicate 8 32)) e ∙ ap (λ l. w ++ l) (drop-replicate (length w) 8 32)
