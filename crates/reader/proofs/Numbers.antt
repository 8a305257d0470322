-- Which lines have a continuation's number. Assumes nothing.
use Rattle.std.proofs.Common.{◌≡◌, ℕ, ◌+◌, ◌-◌, ◌*◌, Bool, true, false, cond, ◌&&◌, List, [], ◌∷◌, ◌++◌, length, drop, Some, None, Option, sym, refl, ap, ◌∙◌, subst, ⊎_elim}
use Rattle.reader.specs.declared.kind.Continuation.{Continuation as Place}
use Rattle.reader.specs.declared.kind.Form.{Form}
use Rattle.reader.specs.declared.kind.LineKind.{LineKind}
use Rattle.reader.specs.declared.kind.LineKind.TheVariants.{Opening, Continuation, End, Dotted, Other}
use Rattle.reader.specs.Kinds.{blank_here, continuation_of, figures, is_continuation, kind_of, letters_of, placed, two_figures}
use Rattle.reader.specs.Told.{Begins, Numbered, NumbersTold, one, opener, two}
use Rattle.std.proofs.lemmas.Bool.{and_parts, cases_Bool, cond_both, cond-false, cond-true}
use Rattle.std.specs.Option.{option_map}
use Rattle.text.specs.Signs.{digit, pair_of}
use Rattle.reader.proofs.Told.{figured, no_mark, only}

-- what one digit gives with a blank behind it, and two digits with one
module _ (f : Form) (revised : Bool) (a b : ℕ) (bs : List ℕ) (is : digit a ≡ true) where
  one_is : blank_here b ≡ true → continuation_of (opener f revised ++ a ∷ b ∷ bs) ≡ Some (placed (length (opener f revised)) (a - 48, 1))
  one_is blank = figured a is f revised (b ∷ bs) ∙ ap (option_map (placed (length (opener f revised)))) (cond-true _ _ _ blank ∙ cond-true _ _ _ is)

  more_is : blank_here b ≡ false → continuation_of (opener f revised ++ a ∷ b ∷ bs) ≡ option_map (placed (length (opener f revised))) (two_figures a b bs)
  more_is unblank = figured a is f revised (b ∷ bs) ∙ ap (option_map (placed (length (opener f revised)))) (cond-false _ _ _ unblank)

module _ (f : Form) (revised : Bool) (a b c : ℕ) (bs : List ℕ) (is : digit a ≡ true) where
  two_is : digit b ≡ true → blank_here c ≡ true → continuation_of (opener f revised ++ a ∷ b ∷ c ∷ bs) ≡ Some (placed (length (opener f revised)) ((a - 48) * 10 + (b - 48), 2))
  two_is ib blank =
      more_is f revised a b (c ∷ bs) is (no_mark b ib)
      ∙ ap (option_map (placed (length (opener f revised)))) (cond-true _ _ _ blank ∙ ap (option_map (λ n. (n, 2))) (cond-true (digit a && digit b) (Some ((a - 48) * 10 + (b - 48))) None (ap (λ v. v && digit b) is ∙ ib)))

  two_run_on : digit b ≡ true → blank_here c ≡ false → continuation_of (opener f revised ++ a ∷ b ∷ c ∷ bs) ≡ None
  two_run_on ib unblank = more_is f revised a b (c ∷ bs) is (no_mark b ib) ∙ ap (option_map (placed (length (opener f revised)))) (cond-false _ _ _ unblank)

one_runs_on : (f : Form) (revised : Bool) (a b : ℕ) (bs : List ℕ) → digit a ≡ true → digit b ≡ false → blank_here b ≡ false → continuation_of (opener f revised ++ a ∷ b ∷ bs) ≡ None
one_runs_on f revised a b [] is ib unblank = more_is f revised a b [] is unblank
one_runs_on f revised a b (c ∷ bs) is ib unblank =
    more_is f revised a b (c ∷ bs) is unblank
    ∙ cond_both (blank_here c) (option_map (λ n. (n, 2)) (pair_of a b)) None (λ o. option_map (placed (length (opener f revised))) o ≡ None)
    (λ _. ap (λ o. option_map (placed (length (opener f revised))) (option_map (λ n. (n, 2)) o)) (cond-false (digit a && digit b) (Some ((a - 48) * 10 + (b - 48))) None (ap (λ v. v && digit b) is ∙ ib))) (λ _. refl)

nothing : (c : Place) → None ≡ Some c → ⊥
nothing c e = cc

same : (x c : Place) → Some x ≡ Some c → x ≡ c
same x c e = cc

-- what gives a number is numbered
module _ (f : Form) (revised : Bool) (a b : ℕ) (is : digit a ≡ true) (unblank : blank_here b ≡ false) where
  numbered_by_two : (bs : List ℕ) (n : Place) → option_map (placed (length (opener f revised))) (two_figures a b bs) ≡ Some n → Numbered (opener f revised ++ a ∷ b ∷ bs) n
  numbered_by_two [] n e = absurd (nothing n e)
  numbered_by_two (c ∷ bs) n e =
      let k : ℕ = length (opener f revised) in
      let line = opener f revised ++ a ∷ b ∷ c ∷ bs in
      cond_both (blank_here c) (option_map (λ m. (m, 2)) (pair_of a b)) None (λ o. option_map (placed k) o ≡ Some n → Numbered line n)
      (λ blank.
      cond_both (digit a && digit b) (Some ((a - 48) * 10 + (b - 48))) None (λ o. option_map (placed k) (option_map (λ m. (m, 2)) o) ≡ Some n → Numbered line n)
      (λ both h. subst (Numbered line) (same (placed k ((a - 48) * 10 + (b - 48), 2)) n h) (two f revised a b c bs is (and_parts (digit a) (digit b) both).1 blank)) (λ _ h. absurd (nothing n h)))
      (λ _ h. absurd (nothing n h)) e

numbered_by : (f : Form) (revised : Bool) (a : ℕ) (bs : List ℕ) (n : Place) → digit a ≡ true → continuation_of (opener f revised ++ a ∷ bs) ≡ Some n → Numbered (opener f revised ++ a ∷ bs) n
numbered_by f revised a [] n is e = absurd (nothing n (sym (figured a is f revised []) ∙ e))
numbered_by f revised a (b ∷ bs) n is e =
    ⊎_elim
    (λ blank. subst (Numbered (opener f revised ++ a ∷ b ∷ bs)) (same (placed (length (opener f revised)) (a - 48, 1)) n (sym (one_is f revised a b bs is blank) ∙ e)) (one f revised a b bs is blank))
    (λ unblank. numbered_by_two f revised a b is unblank bs n (sym (more_is f revised a b bs is unblank) ∙ e))
    (cases_Bool (blank_here b))

-- only a continuation has a number
numbered_by_kind : (line : List ℕ) (n : Place) (k : LineKind) → Begins k line → (o : Option Place) → cond (is_continuation k) o None ≡ Some n → continuation_of line ≡ Some n → Numbered line n
numbered_by_kind line n (Opening f revised) begins o h e = absurd (nothing n h)
numbered_by_kind line n (Continuation f revised) begins o h e =
    subst (λ l. Numbered l n) (sym begins.1.1.1) (numbered_by f revised begins.0 begins.1.0 n begins.1.1.0 (sym (ap continuation_of begins.1.1.1) ∙ e))
numbered_by_kind line n End begins o h e = absurd (nothing n h)
numbered_by_kind line n Dotted begins o h e = absurd (nothing n h)
numbered_by_kind line n Other begins o h e = absurd (nothing n h)

-- what is numbered gives its number
has_number : (line : List ℕ) (n : Place) → Numbered line n → continuation_of line ≡ Some n
has_number line n (one f revised a b bs is blank) = one_is f revised a b bs is blank
has_number line n (two f revised a b c bs is ib blank) = two_is f revised a b c bs is ib blank

pub numbers_told : NumbersTold
numbers_told = record {
  numbered = λ line n. (λ e. numbered_by_kind line n (kind_of line) (only line) (option_map (placed (letters_of line)) (figures (drop (letters_of line) line))) e e, has_number line n);
  one_ends = λ f revised a is. figured a is f revised [];
  two_end = λ f revised a b is ib. more_is f revised a b [] is (no_mark b ib);
  one_runs_on = one_runs_on;
  two_run_on = λ f revised a b c bs is ib unblank. two_run_on f revised a b c bs is ib unblank;
}
