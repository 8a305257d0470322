-- The first word, as a relation. Assumes nothing.
use Rattle.std.proofs.Common.{◌≡◌, ℕ, ◌<◌, ◌≤◌, true, false, List, [], ◌∷◌, ◌++◌, length, get_or, take, drop, Some, None, sym, refl, ap, ◌∙◌, subst, ⊎_elim, arith, MatchOption}
use Rattle.items.proofs.Ends.{blank_reads}
use Rattle.items.proofs.Parting.{Passes, all_leading, marks-drop, marks-take, no_leading}
use Rattle.items.proofs.Scan.{length-marks, step}
use Rattle.items.proofs.Outside.{inked_outside}
use Rattle.items.proofs.Words.{word_begins}
use Rattle.items.specs.declared.mark.Mark.TheVariants.{Text}
use Rattle.items.specs.declared.mark.Run.TheVariants.{Blanks, Word}
use Rattle.items.specs.Items.{is_blank}
use Rattle.items.specs.Marks.{after, mark_of, marks, passes}
use Rattle.items.specs.Parting.{Reads, WordFound, WordsFound, leaves}
use Rattle.items.specs.Words.{lead_of, word_len}
use Rattle.std.proofs.lemmas.List.{length-take-le, take-append-drop}
use Rattle.std.proofs.lemmas.List.Sums.{prefix_len-le-length, prefix_len_stops}
use Rattle.std.proofs.lemmas.Bool.{cases_Bool, cond-false, cond-true, eqb-false}
use Rattle.std.proofs.lemmas.Bool.Decides.{nat_tests}
use Rattle.std.specs.List.{prefix_len}

no_colon : (b : ℕ) → passes Word (mark_of false b) ≡ true → after false b ≡ false
no_colon b is = grind (arith, nat_tests)

-- a word opens no comment
pub word_closed : (xs : List ℕ) → Reads Word false xs → leaves false xs ≡ false
word_closed [] h = refl
word_closed (x ∷ xs) h =
    let out = no_colon x h.0 in
    ap (λ s. leaves s xs) out ∙ word_closed xs (subst (λ s. Passes Word (marks s xs)) out h.1)

module _ (bs inner : List ℕ) (lead n : ℕ) (leads : lead_of bs ≡ lead) (is : inner ≡ drop lead bs) (len : word_len inner ≡ n) (lt : lead < length bs) where
  pub outside : leaves false (take lead bs) ≡ false
  outside =
      let long = length-marks false bs in
      let here = step bs lead (leaves false (take lead bs)) lt (sym (marks-drop lead false bs)) in
      (inked_outside Blanks refl (leaves false (take lead bs)) (get_or bs lead 0) (ap (passes Blanks) (sym here.mark) ∙ subst (λ k. passes Blanks (get_or (marks false bs) k Text) ≡ false) leads (prefix_len_stops (passes Blanks) (marks false bs) Text (omega arith)))).0

  pub reads : Reads Word false (take n inner)
  reads = subst (Passes Word) (ap (λ k. take k (marks false inner)) len ∙ sym (marks-take n false inner)) (all_leading (passes Word) (marks false inner))

  behind : prefix_len (passes Word) (marks false (drop n inner)) ≡ 0
  behind =
      ap (λ s. prefix_len (passes Word) (marks s (drop n inner))) (sym (word_closed (take n inner) reads))
      ∙ ap (prefix_len (passes Word)) (marks-drop n false inner)
      ∙ subst (λ k. prefix_len (passes Word) (drop k (marks false inner)) ≡ 0) len (no_leading (passes Word) (marks false inner))

  pub word_found : WordFound bs (lead, (take n inner, drop n inner))
  word_found =
      let begins : 0 < prefix_len (passes Word) (marks false inner) = subst (λ l. 0 < prefix_len (passes Word) (marks false l)) (sym is) (word_begins false bs lead leads lt) in
      let within : n ≤ length inner = omega (arith, prefix_len-le-length (passes Word) (marks false inner), length-marks false inner) in
      let short : lead ≤ length bs = omega arith in
      record {
        front = take lead bs;
        whole = sym (take-append-drop lead bs) ∙ ap (λ l. take lead bs ++ l) (sym is ∙ sym (take-append-drop n inner));
        lead = sym (length-take-le lead bs short);
        before = subst (Passes Blanks) (ap (λ k. take k (marks false bs)) leads ∙ sym (marks-take lead false bs)) (all_leading (passes Blanks) (marks false bs));
        outside = outside;
        word = reads;
        some = omega (arith, length-take-le n inner within);
        behind = behind;
      }

pub words_found : WordsFound
words_found bs =
    ⊎_elim
    (λ is. subst (λ o. MatchOption o (Reads Blanks false bs) (λ w. WordFound bs w)) (sym (cond-true (is_blank bs) None (Some (lead_of bs, (take (word_len (drop (lead_of bs) bs)) (drop (lead_of bs) bs), drop (word_len (drop (lead_of bs) bs)) (drop (lead_of bs) bs)))) is)) (blank_reads bs is))
    (λ is.
    let lt : lead_of bs < length bs = omega (arith, eqb-false _ _ is, prefix_len-le-length (passes Blanks) (marks false bs), length-marks false bs) in
    subst (λ o. MatchOption o (Reads Blanks false bs) (λ w. WordFound bs w)) (sym (cond-false (is_blank bs) None (Some (lead_of bs, (take (word_len (drop (lead_of bs) bs)) (drop (lead_of bs) bs), drop (word_len (drop (lead_of bs) bs)) (drop (lead_of bs) bs)))) is))
    (word_found bs (drop (lead_of bs) bs) (lead_of bs) (word_len (drop (lead_of bs) bs)) refl refl refl lt))
    (cases_Bool (is_blank bs))
