-- How a line's beginning tells its kind and its letters. Assumes nothing.
use Rattle.std.proofs.Common.{◌≡◌, ℕ, Bool, true, false, cond, ◌&&◌, eqb, List, [], ◌∷◌, ◌++◌, length, get_or, take, drop, None, sym, refl, ap, ◌∙◌, subst, inl, inr, append-nil, arith}
use Rattle.reader.specs.declared.kind.Form.{Form}
use Rattle.reader.specs.declared.kind.Form.TheVariants.{A, B, E}
use Rattle.reader.specs.declared.kind.LineKind.TheVariants.{Opening, Continuation, End, Dotted, Other}
use Rattle.reader.specs.Kinds.{blank_here, continuation_of, ending, figures, is_continuation, kind_of, lettered, letters_of, numbered, placed, revisable}
use Rattle.reader.specs.Told.{Begins, EndOrBlank, KindsTold, LettersTold, letter, opener}
use Rattle.std.proofs.lemmas.List.{drop_at}
use Rattle.std.proofs.lemmas.Bool.{and_parts, cond_both, cond-false, cond-true, eqb-false, eqb-true}
use Rattle.std.proofs.lemmas.Bool.Decides.{nat_tests}
use Rattle.std.specs.Option.{option_map}
use Rattle.text.specs.Signs.{digit}

bare : (f : Form) (revised : Bool) → kind_of (opener f revised) ≡ Opening f revised
bare A false = refl
bare A true = refl
bare B false = refl
bare B true = refl
bare E false = refl
bare E true = refl

opens : (f : Form) (revised : Bool) (bs : List ℕ) → kind_of (opener f revised ++ 32 ∷ bs) ≡ Opening f revised
opens A false bs = refl
opens A true bs = refl
opens B false bs = refl
opens B true bs = refl
opens E false [] = refl
opens E false (b ∷ bs) = refl
opens E true bs = refl

-- a digit is neither a blank, nor R, nor N
module _ (d : ℕ) (is : digit d ≡ true) where
  no_blank : eqb d 32 ≡ false
  no_blank = grind (arith, nat_tests)

  no_revision : eqb d 82 ≡ false
  no_revision = grind (arith, nat_tests)

  no_end : eqb d 78 ≡ false
  no_end = grind (arith, nat_tests)

  pub no_mark : blank_here d ≡ false
  no_mark = grind (arith, nat_tests)

  counted : (f : Form) (revised : Bool) (bs : List ℕ) → numbered f revised (d ∷ bs) ≡ Continuation f revised
  counted f revised bs = cond-false _ _ _ no_blank ∙ cond-true _ _ _ is

  plain : (f : Form) (bs : List ℕ) → revisable f (d ∷ bs) ≡ Continuation f false
  plain f bs = cond-false _ _ _ no_revision ∙ counted f false bs

  unended : (bs : List ℕ) → ending (d ∷ bs) ≡ Continuation E false
  unended [] = plain E []
  unended (b ∷ bs) = ap (λ v. cond (v && eqb b 68) End (revisable E (d ∷ b ∷ bs))) no_end ∙ plain E (b ∷ bs)

  continues : (f : Form) (revised : Bool) (bs : List ℕ) → kind_of (opener f revised ++ d ∷ bs) ≡ Continuation f revised
  continues A false bs = plain A bs
  continues A true bs = counted A true bs
  continues B false bs = plain B bs
  continues B true bs = counted B true bs
  continues E false bs = unended bs
  continues E true bs = counted E true bs

  letters_are : (f : Form) (revised : Bool) (bs : List ℕ) → letters_of (opener f revised ++ d ∷ bs) ≡ length (opener f revised)
  letters_are f false bs = cond-false _ _ _ no_revision
  letters_are f true bs = refl

  -- what the digits and what stands behind them give
  pub figured : (f : Form) (revised : Bool) (bs : List ℕ) → continuation_of (opener f revised ++ d ∷ bs) ≡ option_map (placed (length (opener f revised))) (figures (d ∷ bs))
  figured f revised bs =
      let line = opener f revised ++ d ∷ bs in
      ap (λ k. cond (is_continuation k) (option_map (placed (letters_of line)) (figures (drop (letters_of line) line))) None) (continues f revised bs)
      ∙ ap (λ k. option_map (placed k) (figures (drop k line))) (letters_are f revised bs)
      ∙ ap (λ l. option_map (placed (length (opener f revised))) (figures l)) (drop_at (opener f revised) (d ∷ bs) (length (opener f revised)) refl)

-- what a line's kind says of its beginning
begins-numbered : (f : Form) (revised : Bool) (line bs : List ℕ) → line ≡ opener f revised ++ bs → Begins Dotted line → Begins (numbered f revised bs) line
begins-numbered f revised line [] e dot = inl (e ∙ append-nil (opener f revised))
begins-numbered f revised line (b ∷ bs) e dot =
    cond_both (eqb b 32) (Opening f revised) (cond (digit b) (Continuation f revised) Dotted) (λ k. Begins k line)
    (λ is. inr (bs, e ∙ ap (λ x. opener f revised ++ x ∷ bs) (eqb-true b 32 is)))
    (λ _. cond_both (digit b) (Continuation f revised) Dotted (λ k. Begins k line) (λ is. (b, (bs, (is, e)))) (λ _. dot))

begins-revisable : (f : Form) (line bs : List ℕ) → line ≡ 46 ∷ letter f ∷ bs → Begins (revisable f bs) line
begins-revisable f line [] e = inl e
begins-revisable f line (b ∷ bs) e =
    cond_both (eqb b 82) (numbered f true bs) (numbered f false (b ∷ bs)) (λ k. Begins k line)
    (λ is. begins-numbered f true line bs (e ∙ ap (λ x. 46 ∷ letter f ∷ x ∷ bs) (eqb-true b 82 is)) (letter f ∷ b ∷ bs, e))
    (λ _. begins-numbered f false line (b ∷ bs) e (letter f ∷ b ∷ bs, e))

begins-ending : (line bs : List ℕ) → line ≡ 46 ∷ 69 ∷ bs → Begins (ending bs) line
begins-ending line [] e = begins-revisable E line [] e
begins-ending line (n ∷ []) e = begins-revisable E line (n ∷ []) e
begins-ending line (n ∷ d ∷ bs) e =
    cond_both (eqb n 78 && eqb d 68) End (revisable E (n ∷ d ∷ bs)) (λ k. Begins k line)
    (λ is.
    let both = and_parts (eqb n 78) (eqb d 68) is in
    (bs, e ∙ ap (λ x. 46 ∷ 69 ∷ x ∷ d ∷ bs) (eqb-true n 78 both.0) ∙ ap (λ x. 46 ∷ 69 ∷ 78 ∷ x ∷ bs) (eqb-true d 68 both.1)))
    (λ _. begins-revisable E line (n ∷ d ∷ bs) e)

begins-lettered : (line bs : List ℕ) → line ≡ 46 ∷ bs → Begins (lettered bs) line
begins-lettered line [] e = ([], e)
begins-lettered line (b ∷ bs) e =
    let lead : (x : ℕ) → eqb b x ≡ true → line ≡ 46 ∷ x ∷ bs = λ x is. e ∙ ap (λ y. 46 ∷ y ∷ bs) (eqb-true b x is) in
    cond_both (eqb b 65) (revisable A bs) (cond (eqb b 66) (revisable B bs) (cond (eqb b 69) (ending bs) Dotted)) (λ k. Begins k line)
    (λ is. begins-revisable A line bs (lead 65 is))
    (λ _.
    cond_both (eqb b 66) (revisable B bs) (cond (eqb b 69) (ending bs) Dotted) (λ k. Begins k line)
    (λ is. begins-revisable B line bs (lead 66 is))
    (λ _. cond_both (eqb b 69) (ending bs) Dotted (λ k. Begins k line) (λ is. begins-ending line bs (lead 69 is)) (λ _. (b ∷ bs, e))))

pub only : (line : List ℕ) → Begins (kind_of line) line
only [] = λ bs h. absurd (omega (arith, ap length h))
only (b ∷ bs) =
    cond_both (eqb b 46) (lettered bs) Other (λ k. Begins k (b ∷ bs))
    (λ is. begins-lettered (b ∷ bs) bs (ap (λ x. x ∷ bs) (eqb-true b 46 is)))
    (λ no cs h. eqb-false b 46 no (ap (λ l. get_or l 0 0) h))

pub kinds_told : KindsTold
kinds_told = record {
  bare = bare;
  opens = opens;
  continues = λ f revised d bs is. continues d is f revised bs;
  ends = λ bs. refl;
  only = only;
}

-- what an opening's letters are, and what stands behind them
abbrev Lettered : Form → Bool → List ℕ → Type 0
Lettered f revised line = (take (letters_of line) line ≡ opener f revised) × EndOrBlank (drop (letters_of line) line)

pub letters_told : LettersTold
letters_told line f false e =
    elim (subst (λ k. Begins k line) e (only line)) [
      | inl is ↦ subst (Lettered f false) (sym is) (refl, inl refl)
      | inr q ↦ subst (Lettered f false) (sym q.1) (refl, inr (q.0, refl))
    ]
letters_told line f true e =
    elim (subst (λ k. Begins k line) e (only line)) [
      | inl is ↦ subst (Lettered f true) (sym is) (refl, inl refl)
      | inr q ↦ subst (Lettered f true) (sym q.1) (refl, inr (q.0, refl))
    ]
