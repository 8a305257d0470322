-- What does not read as a blank stands outside comments. Assumes nothing.
use Rattle.std.proofs.Common.{◌≡◌, ℕ, ◌+◌, Bool, true, false, cond, ◌||◌, eqb, List, [], ◌∷◌, ap, ◌∙◌, refl, sym, ⊎_elim, arith}
use Rattle.items.proofs.Parting.{ending_rest}
use Rattle.items.specs.declared.mark.Mark.{Mark}
use Rattle.items.specs.declared.mark.Mark.TheVariants.{Blank, Slash, Text}
use Rattle.items.specs.declared.mark.Run.{Run}
use Rattle.items.specs.Marks.{after, mark_of, marks, passes}
use Rattle.items.specs.Parting.{leaves}
use Rattle.std.proofs.lemmas.Bool.{cases_Bool, cond-false, cond-true, true≢false}
use Rattle.std.specs.List.{prefix_len, suffix_len}

pub colon_blank : (b : ℕ) → eqb b 58 ≡ true → mark_of false b ≡ Blank
colon_blank b is = ap (λ v. cond (v || eqb b 32) Blank (cond (eqb b 47) Slash Text)) is

-- a run that takes blanks
module _ (run : Run) (takes : passes run Blank ≡ true) where
  pub inked_outside : (s : Bool) (b : ℕ) → passes run (mark_of s b) ≡ false → (s ≡ false) × (after s b ≡ false)
  inked_outside true b off = absurd (true≢false (sym takes ∙ off))
  inked_outside false b off =
      (refl, ⊎_elim (λ is. absurd (true≢false (sym (ap (passes run) (colon_blank b is) ∙ takes) ∙ off))) (λ is. cond-false _ _ _ is) (cases_Bool (eqb b 58)))

  none_passes : (m : Mark) (ms : List Mark) → prefix_len (passes run) (m ∷ ms) ≡ 0 → passes run m ≡ false
  none_passes m ms h = ⊎_elim (λ is. absurd (omega (arith, cond-true (passes run m) (1 + prefix_len (passes run) ms) 0 is))) (λ no. no) (cases_Bool (passes run m))

  -- what begins with none of the run begins outside comments
  pub begins_outside : (s : Bool) (b : ℕ) (bs : List ℕ) → prefix_len (passes run) (marks s (b ∷ bs)) ≡ 0 → s ≡ false
  begins_outside s b bs h = (inked_outside s b (none_passes (mark_of s b) (marks (after s b) bs) h)).0

  -- what ends with none of it leaves no comment open
  pub ends_outside : (s : Bool) (b : ℕ) (bs : List ℕ) → suffix_len (passes run) (marks s (b ∷ bs)) ≡ 0 → leaves s (b ∷ bs) ≡ false
  ends_outside s b [] h = (inked_outside s b (none_passes (mark_of s b) [] h)).1
  ends_outside s b (c ∷ cs) h = ends_outside (after s b) c cs (ending_rest (passes run) (mark_of s b ∷ []) (marks (after s b) (c ∷ cs)) h)
