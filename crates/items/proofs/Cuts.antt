-- The first piece before a slash, and the item that it makes. Assumes nothing.
use Rattle.std.proofs.Common.{◌≡◌, ℕ, zero, suc, ◌+◌, ◌<◌, Bool, true, false, List, [], ◌∷◌, ◌++◌, map, length, take, drop, sym, refl, ap, ◌∙◌, ⊎_elim, append_assoc, append-nil, add-one, arith}
use Rattle.items.specs.declared.mark.Mark.{Mark}
use Rattle.items.specs.declared.mark.Mark.TheVariants.{Blank, Slash, Text}
use Rattle.items.specs.declared.mark.Run.TheVariants.{Blanks, Stretch}
use Rattle.items.specs.Items.{cut_items, pieces, trimmed}
use Rattle.items.specs.Marks.{after, is_slash, mark_of, marks, passes}
use Rattle.reader.specs.Lines.{Piece}
use Rattle.std.proofs.lemmas.List.{length-take-le, take_all}
use Rattle.std.proofs.lemmas.Bool.{cases_Bool, cond-false, cond-true, true≢false}
use Rattle.std.proofs.lemmas.Bool.Decides.{nat_tests}
use Rattle.std.specs.List.{prefix_len}

-- a stretch goes on up to a slash
stops : (m : Mark) → is_slash m ≡ true → passes Stretch m ≡ false
stops Blank is = absurd (true≢false (sym is))
stops Slash is = refl
stops Text is = absurd (true≢false (sym is))

pub goes_on : (m : Mark) → is_slash m ≡ false → passes Stretch m ≡ true
goes_on Blank is = refl
goes_on Slash is = absurd (true≢false is)
goes_on Text is = refl

-- what reads as a slash is outside comments, and leaves none open
pub slash_outside : (s : Bool) (b : ℕ) → is_slash (mark_of s b) ≡ true → (s ≡ false) × ((b ≡ 47) × (after s b ≡ false))
slash_outside true b is = absurd (true≢false (sym is))
slash_outside false b is = (refl, (grind (arith, nat_tests), grind (arith, nat_tests)))

module _ (s : Bool) (b : ℕ) (bs : List ℕ) where
  at_slash : is_slash (mark_of s b) ≡ true → prefix_len (passes Stretch) (marks s (b ∷ bs)) ≡ 0
  at_slash is = cond-false _ _ _ (stops (mark_of s b) is)

  past : is_slash (mark_of s b) ≡ false → prefix_len (passes Stretch) (marks s (b ∷ bs)) ≡ 1 + prefix_len (passes Stretch) (marks (after s b) bs)
  past is = cond-true _ _ _ (goes_on (mark_of s b) is)

pub last_piece : (p : ℕ) (part : List ℕ) (s : Bool) (xs : List ℕ) → prefix_len (passes Stretch) (marks s xs) ≡ length xs → pieces p part s xs ≡ (p, part ++ xs) ∷ []
last_piece p part s [] h = ap (λ l. (p, l) ∷ []) (sym (append-nil part))
last_piece p part s (b ∷ bs) h =
    ⊎_elim
    (λ is. absurd (omega (arith, at_slash s b bs is)))
    (λ is.
    cond-false _ _ _ is
    ∙ last_piece p (part ++ b ∷ []) (after s b) bs (omega (arith, past s b bs is))
    ∙ ap (λ l. (p, l) ∷ []) (append_assoc part (b ∷ []) bs))
    (cases_Bool (is_slash (mark_of s b)))

pub next_piece : (p : ℕ) (part : List ℕ) (s : Bool) (xs : List ℕ) (n : ℕ) → prefix_len (passes Stretch) (marks s xs) ≡ n → n < length xs → pieces p part s xs ≡ (p, part ++ take n xs) ∷ pieces (p + length (part ++ take n xs) + 1) [] false (drop (suc n) xs)
next_piece p part s [] n h lt = absurd (omega arith)
next_piece p part s (b ∷ bs) zero h lt =
    ⊎_elim
    (λ is.
    cond-true _ _ _ is
    ∙ ap (λ l. (p, part) ∷ pieces (p + length part + 1) [] l bs) (slash_outside s b is).1.1
    ∙ ap (λ l. (p, l) ∷ pieces (p + length l + 1) [] false bs) (sym (append-nil part)))
    (λ is. absurd (omega (arith, past s b bs is)))
    (cases_Bool (is_slash (mark_of s b)))
next_piece p part s (b ∷ bs) (suc n) h lt =
    ⊎_elim
    (λ is. absurd (omega (arith, at_slash s b bs is)))
    (λ is.
    cond-false _ _ _ is
    ∙ next_piece p (part ++ b ∷ []) (after s b) bs n (omega (arith, past s b bs is)) (omega arith)
    ∙ ap (λ l. (p, l) ∷ pieces (p + length l + 1) [] false (drop (suc n) bs)) (append_assoc part (b ∷ []) (take n bs)))
    (cases_Bool (is_slash (mark_of s b)))

-- the item that the first n bytes make
module _ (p : ℕ) (xs : List ℕ) (n : ℕ) (is : prefix_len (passes Stretch) (marks false xs) ≡ n) where
  pub last_item : n ≡ length xs → (item : Piece) → trimmed Blanks (p, take n xs) ≡ item → cut_items (p, xs) ≡ item ∷ []
  last_item end item e = ap (map (trimmed Blanks)) (last_piece p [] false xs (is ∙ end)) ∙ ap (λ l. trimmed Blanks (p, l) ∷ []) (sym (take_all n xs (omega arith))) ∙ ap (λ q. q ∷ []) e

  pub next_item : n < length xs → (item : Piece) → trimmed Blanks (p, take n xs) ≡ item → cut_items (p, xs) ≡ item ∷ cut_items (p + n + 1, drop (n + 1) xs)
  next_item lt item e =
      ap (map (trimmed Blanks)) (next_piece p [] false xs n is lt)
      ∙ ap (λ q. q ∷ map (trimmed Blanks) (pieces (p + length (take n xs) + 1) [] false (drop (suc n) xs))) e
      ∙ ap (λ k. item ∷ map (trimmed Blanks) (pieces (p + k + 1) [] false (drop (suc n) xs))) (length-take-le n xs (omega arith))
      ∙ ap (λ k. item ∷ map (trimmed Blanks) (pieces (p + n + 1) [] false (drop k xs))) (sym (add-one n))
