-- The first word, off the front. Assumes nothing.
use Rattle.std.proofs.Common.{◌≡◌, ℕ, zero, suc, ◌+◌, ◌<◌, Bool, true, false, List, [], ◌∷◌, length, drop, refl, subst, ⊎_elim, arith}
use Rattle.items.proofs.Outside.{inked_outside}
use Rattle.items.specs.declared.mark.Mark.{Mark}
use Rattle.items.specs.declared.mark.Mark.TheVariants.{Blank, Slash, Text}
use Rattle.items.specs.declared.mark.Run.TheVariants.{Blanks, Word}
use Rattle.items.specs.Marks.{after, mark_of, marks, passes}
use Rattle.std.proofs.lemmas.Bool.{cases_Bool, cond-false, cond-true, true≢false}
use Rattle.std.specs.List.{prefix_len}

-- a word is made of what does not read as a blank
inks : (m : Mark) → passes Blanks m ≡ false → passes Word m ≡ true
inks Blank is = absurd (true≢false is)
inks Slash is = refl
inks Text is = refl

module _ (s : Bool) (b : ℕ) (bs : List ℕ) where
  blank_on : passes Blanks (mark_of s b) ≡ true → prefix_len (passes Blanks) (marks s (b ∷ bs)) ≡ 1 + prefix_len (passes Blanks) (marks (after s b) bs)
  blank_on is = cond-true _ _ _ is

  blank_stops : passes Blanks (mark_of s b) ≡ false → prefix_len (passes Blanks) (marks s (b ∷ bs)) ≡ 0
  blank_stops is = cond-false _ _ _ is

-- behind the blanks a word begins
pub word_begins : (s : Bool) (xs : List ℕ) (n : ℕ) → prefix_len (passes Blanks) (marks s xs) ≡ n → n < length xs → 0 < prefix_len (passes Word) (marks false (drop n xs))
word_begins s [] n h lt = absurd (omega arith)
word_begins s (b ∷ bs) zero h lt =
    ⊎_elim
    (λ is. absurd (omega (arith, blank_on s b bs is)))
    (λ is.
    let ink : passes Blanks (mark_of false b) ≡ false = subst (λ t. passes Blanks (mark_of t b) ≡ false) (inked_outside Blanks refl s b is).0 is in
    let more : prefix_len (passes Word) (marks false (b ∷ bs)) ≡ 1 + prefix_len (passes Word) (marks (after false b) bs) = cond-true _ _ _ (inks (mark_of false b) ink) in
    omega arith)
    (cases_Bool (passes Blanks (mark_of s b)))
word_begins s (b ∷ bs) (suc n) h lt =
    ⊎_elim
    (λ is. word_begins (after s b) bs n (omega (arith, blank_on s b bs is)) (omega arith))
    (λ is. absurd (omega (arith, blank_stops s b bs is)))
    (cases_Bool (passes Blanks (mark_of s b)))
