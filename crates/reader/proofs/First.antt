-- The first line of a text, and what stands behind its end. Assumes nothing.
use Rattle.std.proofs.Common.{◌≡◌, ℕ, zero, suc, ◌+◌, ◌-◌, ◌<◌, ◌≤◌, not, eqb, List, [], ◌∷◌, ◌++◌, length, get_or, take, drop, Some, None, sym, ap, ◌∙◌, subst, ⊎_elim, append_assoc, arith}
use Rattle.std.proofs.ByRecursion.{All-take}
use Rattle.std.specs.List.{position, position_or_len}
use Rattle.std.proofs.lemmas.List.{drop_more, length_push, take-append-drop, take_all}
use Rattle.std.proofs.lemmas.List.Quantifiers.{position-Some}
use Rattle.std.proofs.lemmas.Bool.{cases_Bool, cond-false, cond-true, eqb-false, eqb-true}
use Rattle.std.proofs.lemmas.Bool.Decides.{nat_tests}
use Rattle.reader.proofs.Scan.{last, less_return-push, no_return, with_return}
use Rattle.reader.specs.Lines.{FirstLine, NoFeed, NoReturn, feed, less_return, return_feed}
use Rattle.reader.specs.Lines.{last as at_end}

-- where nothing is taken off, no carriage return stands at the end
unreturned : (line : List ℕ) → less_return line ≡ line → NoReturn line
unreturned line e front is =
    let same : line ≡ front = sym e ∙ ap less_return is ∙ less_return-push front 13 in
    omega (arith, ap length same, ap length is, length_push front 13)

-- what stands before a line feed is a line less its carriage return
pub fed : (line rest : List ℕ) → NoFeed line → FirstLine (line ++ 10 ∷ rest) (less_return line) rest
fed [] rest h = feed tt (λ front is. omega (arith, ap length is, length_push front 13))
fed (b ∷ bs) rest h =
    let line = b ∷ bs in
    let front = take (length line - 1) line in
    let some : 0 < length line = omega arith in
    ⊎_elim
    (λ is.
    let whole : line ++ 10 ∷ rest ≡ front ++ 13 ∷ 10 ∷ rest = ap (λ l. l ++ 10 ∷ rest) (last line some ∙ ap (λ x. front ++ x ∷ []) (eqb-true (get_or line (length line - 1) 0) 13 is)) ∙ append_assoc front (13 ∷ []) (10 ∷ rest) in
    subst (λ t. FirstLine t (less_return line) rest) (sym whole)
    (subst (λ l. FirstLine (front ++ 13 ∷ 10 ∷ rest) l rest) (sym (with_return line some (eqb-true (get_or line (length line - 1) 0) 13 is)))
    (return_feed (All-take (λ x. x ≡ 10 → ⊥) (length line - 1) line h))))
    (λ no.
    let same = no_return line some (eqb-false (get_or line (length line - 1) 0) 13 no) in
    subst (λ l. FirstLine (line ++ 10 ∷ rest) l rest) (sym same) (feed h (unreturned line same)))
    (cases_Bool (eqb (get_or line (length line - 1) 0) 13))

-- up to the first line feed there is none
unfed : (xs : List ℕ) (n : ℕ) → n ≤ position_or_len (λ b. eqb b 10) xs → NoFeed (take n xs)
unfed xs zero h = tt
unfed [] (suc n) h = absurd (omega arith)
unfed (b ∷ bs) (suc n) h =
    ⊎_elim
    (λ is. absurd (omega (arith, cond-false (not (eqb b 10)) (1 + position_or_len (λ b. eqb b 10) bs) 0 (ap not is))))
    (λ is. (eqb-false b 10 is, unfed bs n (omega (arith, cond-true (not (eqb b 10)) (1 + position_or_len (λ b. eqb b 10) bs) 0 (ap not is)))))
    (cases_Bool (eqb b 10))

module _ (xs : List ℕ) where
  pub first_at_end : None ≡ position (λ b. eqb b 10) xs → FirstLine xs xs []
  first_at_end none =
      let end : length xs ≤ position_or_len (λ b. eqb b 10) xs = grind (arith, nat_tests) in
      at_end (subst NoFeed (take_all (length xs) xs (omega arith)) (unfed xs (length xs) end))

  pub first_at_feed : (n : ℕ) → Some n ≡ position (λ b. eqb b 10) xs → FirstLine xs (less_return (take n xs)) (drop (n + 1) xs)
  first_at_feed n is =
      let found = position-Some (λ b. eqb b 10) xs n 0 (sym is) in
      let at : n ≤ position_or_len (λ b. eqb b 10) xs = grind (arith, nat_tests) in
      let whole : take n xs ++ 10 ∷ drop (n + 1) xs ≡ xs =
      ap (λ x. take n xs ++ x ∷ drop (n + 1) xs) (sym (eqb-true (get_or xs n 0) 10 found.1)) ∙ ap (λ l. take n xs ++ l) (sym (drop_more xs n 0 found.0)) ∙ take-append-drop n xs
      in subst (λ t. FirstLine t (less_return (take n xs)) (drop (n + 1) xs)) whole (fed (take n xs) (drop (n + 1) xs) (unfed xs n at))
