-- How a scan for the line's end keeps the lines of a text. Assumes nothing.
use Rattle.std.proofs.Common.{◌≡◌, ℕ, zero, suc, ◌+◌, ◌-◌, ◌<◌, ◌≤◌, true, false, cond, not, eqb, List, [], ◌∷◌, ◌++◌, length, get_or, take, drop, Some, None, sym, refl, ap, ◌∙◌, suc-le-suc, ⊎_elim, append_assoc, append-nil, arith}
use Rattle.std.specs.List.{between, position, position_or_len}
use Rattle.std.proofs.lemmas.List.{at_drop_more, at_drop_all, length-take-le, take_all, take_more}
use Rattle.std.proofs.lemmas.List.Quantifiers.{position-Some}
use Rattle.std.proofs.lemmas.Bool.{cases_Bool, cond-false, cond-true, eq-eqb, ne_eqb}
use Rattle.std.proofs.lemmas.Bool.Decides.{nat_tests}
use Rattle.reader.specs.Lines.{less_return, last_line, lines_from, lines_of}

pub less_return-push : (bs : List ℕ) (b : ℕ) → less_return (bs ++ b ∷ []) ≡ cond (eqb b 13) bs (bs ++ b ∷ [])
less_return-push [] b = refl
less_return-push (x ∷ []) b = elim (eqb b 13) as (λ v. x ∷ cond v [] (b ∷ []) ≡ cond v (x ∷ []) (x ∷ b ∷ [])) [ true ↦ refl | false ↦ refl ]
less_return-push (x ∷ y ∷ bs) b = ap (λ l. x ∷ l) (less_return-push (y ∷ bs) b) ∙ elim (eqb b 13) as (λ v. x ∷ cond v (y ∷ bs) (y ∷ (bs ++ b ∷ [])) ≡ cond v (x ∷ y ∷ bs) (x ∷ y ∷ (bs ++ b ∷ []))) [ true ↦ refl | false ↦ refl ]

last_line-some : (start : ℕ) (bs : List ℕ) → 0 < length bs → last_line start bs ≡ (start, bs) ∷ []
last_line-some start [] h = absurd (omega arith)
last_line-some start (b ∷ bs) h = refl

-- up to the first line feed the bytes are the line's
unfed : (p : ℕ) (part xs : List ℕ) (n : ℕ) → n ≤ position_or_len (λ b. eqb b 10) xs → lines_from p part xs ≡ lines_from p (part ++ take n xs) (drop n xs)
unfed p part xs zero h = ap (λ l. lines_from p l xs) (sym (append-nil part))
unfed p part [] (suc n) h = absurd (omega arith)
unfed p part (b ∷ bs) (suc n) h =
    ⊎_elim
    (λ is. absurd (omega (arith, cond-false (not (eqb b 10)) (1 + position_or_len (λ b. eqb b 10) bs) 0 (ap not is))))
    (λ is.
    cond-false _ _ _ is
    ∙ unfed p (part ++ b ∷ []) bs n (omega (arith, cond-true (not (eqb b 10)) (1 + position_or_len (λ b. eqb b 10) bs) 0 (ap not is)))
    ∙ ap (λ l. lines_from p l (drop n bs)) (append_assoc part (b ∷ []) (take n bs)))
    (cases_Bool (eqb b 10))

module _ (p : ℕ) (xs : List ℕ) where
  pub at_end : None ≡ position (λ b. eqb b 10) xs → 0 < length xs → lines_of p xs ≡ (p, xs) ∷ []
  at_end none some =
      let end : length xs ≤ position_or_len (λ b. eqb b 10) xs = grind (arith, nat_tests) in
      unfed p [] xs (length xs) end
      ∙ ap (λ l. lines_from p l (drop (length xs) xs)) (take_all (length xs) xs (omega arith))
      ∙ at_drop_all (lines_from p xs) xs (length xs) (omega arith)
      ∙ last_line-some p xs some

  pub at_feed : (n : ℕ) → Some n ≡ position (λ b. eqb b 10) xs → lines_of p xs ≡ (p, less_return (take n xs)) ∷ lines_of (p + n + 1) (drop (n + 1) xs)
  at_feed n is =
      let found = position-Some (λ b. eqb b 10) xs n 0 (sym is) in
      let at : n ≤ position_or_len (λ b. eqb b 10) xs = grind (arith, nat_tests) in
      unfed p [] xs n at
      ∙ at_drop_more (lines_from p (take n xs)) xs n 0 found.0
      ∙ cond-true _ _ _ found.1
      ∙ ap (λ k. (p, less_return (take n xs)) ∷ lines_of (p + k + 1) (drop (n + 1) xs)) (length-take-le n xs (omega (arith, found.0)))

-- the carriage return before the line feed
module _ (xs : List ℕ) (some : 0 < length xs) where
  pub last : xs ≡ take (length xs - 1) xs ++ get_or xs (length xs - 1) 0 ∷ []
  last =
      let back : length xs ≡ length xs - 1 + 1 = omega arith in
      sym (take_all (length xs) xs (omega arith)) ∙ ap (λ n. take n xs) back ∙ take_more xs (length xs - 1) 0 (omega arith)

  pub with_return : get_or xs (length xs - 1) 0 ≡ 13 → less_return xs ≡ take (length xs - 1) xs
  with_return is = ap less_return last ∙ less_return-push (take (length xs - 1) xs) (get_or xs (length xs - 1) 0) ∙ cond-true (eqb (get_or xs (length xs - 1) 0) 13) _ (take (length xs - 1) xs ++ get_or xs (length xs - 1) 0 ∷ []) (eq-eqb _ _ is)

  pub no_return : (get_or xs (length xs - 1) 0 ≡ 13 → ⊥) → less_return xs ≡ xs
  no_return ne = ap less_return last ∙ less_return-push (take (length xs - 1) xs) (get_or xs (length xs - 1) 0) ∙ cond-false (eqb (get_or xs (length xs - 1) 0) 13) (take (length xs - 1) xs) _ (ne_eqb _ _ ne) ∙ sym last

pub return_front : (xs : List ℕ) → less_return xs ≡ take (length (less_return xs)) xs
return_front [] = refl
return_front (b ∷ []) = elim (eqb b 13) as (λ v. cond v [] (b ∷ []) ≡ take (length (cond v [] (b ∷ []))) (b ∷ [])) [ true ↦ refl | false ↦ refl ]
return_front (b ∷ c ∷ bs) = ap (λ l. b ∷ l) (return_front (c ∷ bs))

pub return_le : (xs : List ℕ) → length (less_return xs) ≤ length xs
return_le [] = omega arith
return_le (b ∷ []) = elim (eqb b 13) as (λ v. length (cond v [] (b ∷ [])) ≤ 1) [ true ↦ omega arith | false ↦ omega arith ]
return_le (b ∷ c ∷ bs) = suc-le-suc (return_le (c ∷ bs))

-- a front of what is left of the text stands in the text
pub front_stands : (xs rest part : List ℕ) (i : ℕ) → rest ≡ drop i xs → part ≡ take (length part) rest → part ≡ between i (i + length part) xs
front_stands xs rest part i left is =
    let e : length part ≡ i + length part - i = omega arith in
    is ∙ ap (take (length part)) left ∙ ap (λ n. take n (drop i xs)) e
