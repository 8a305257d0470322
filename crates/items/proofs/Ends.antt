-- A body line's end, and its first word, as relations. Assumes nothing.
use Rattle.std.proofs.Common.{◌≡◌, ℕ, ◌+◌, ◌-◌, ◌<◌, true, false, cond, List, [], ◌∷◌, length, get_or, take, drop, sym, refl, ap, ◌∙◌, subst, ⊎_elim, arith}
use Rattle.items.proofs.Cuts.{slash_outside}
use Rattle.items.proofs.Parting.{Passes, all_leading, all_led, cut_parted, marks-drop, marks-take, none_before, run_behind}
use Rattle.items.proofs.Scan.{ending-push, length-marks, step}
use Rattle.items.specs.declared.mark.Mark.{Mark}
use Rattle.items.specs.declared.mark.Mark.TheVariants.{Blank, Slash, Text}
use Rattle.items.specs.declared.mark.Run.TheVariants.{Blanks, Loose}
use Rattle.items.specs.Items.{cut_items, is_blank}
use Rattle.items.specs.Marks.{body_len, edge, is_slash, marks, passes}
use Rattle.items.specs.Parting.{BodyParted, BodyEnd, Held, Reads, leaves, none, plain, slashed, some}
use Rattle.std.proofs.ByRecursion.{All-get_or}
use Rattle.std.proofs.lemmas.List.{drop_more, take_all, take-append-drop, take_more}
use Rattle.std.proofs.lemmas.Bool.{cases_Bool, cases_lt, cond-false, cond-true, eqb-false, eqb-true, true≢false}
use Rattle.std.specs.List.{suffix_len, prefix_len}

inked : (m : Mark) → passes Blanks m ≡ false → is_slash m ≡ false → passes Loose m ≡ false
inked Blank is not-slash = absurd (true≢false is)
inked Slash is not-slash = absurd (true≢false not-slash)
inked Text is not-slash = refl

slashes : (m : Mark) → is_slash m ≡ true → passes Blanks m ≡ false
slashes Blank is = absurd (true≢false (sym is))
slashes Slash is = refl
slashes Text is = absurd (true≢false (sym is))

-- the last mark before the edge is none of the run
module _ (ms : List Mark) (k : ℕ) (lt : k < length ms) (at : edge Blanks ms ≡ k + 1) where
  last_inked : passes Blanks (get_or ms k Text) ≡ false
  last_inked =
      ⊎_elim
      (λ is.
      let none : suffix_len (passes Blanks) (take (k + 1) ms) ≡ 0 = subst (λ n. suffix_len (passes Blanks) (take n ms) ≡ 0) at (none_before Blanks ms) in
      let one : suffix_len (passes Blanks) (take (k + 1) ms) ≡ 1 + suffix_len (passes Blanks) (take k ms) = ap (suffix_len (passes Blanks)) (take_more ms k Text lt) ∙ ending-push (passes Blanks) (take k ms) (get_or ms k Text) ∙ cond-true _ _ _ is in
      absurd (omega arith))
      (λ is. is)
      (cases_Bool (passes Blanks (get_or ms k Text)))

  no_slash : is_slash (get_or ms k Text) ≡ false → suffix_len (passes Loose) (take (k + 1) ms) ≡ 0
  no_slash is =
      ap (suffix_len (passes Loose)) (take_more ms k Text lt)
      ∙ ending-push (passes Loose) (take k ms) (get_or ms k Text)
      ∙ cond-false _ _ _ (inked (get_or ms k Text) last_inked is)

past : (ks : List Mark) → length ks ≡ 0 → is_slash (get_or ks 0 Text) ≡ false
past [] e = refl
past (k ∷ ks) e = absurd (omega arith)

-- a slash at the edge means that there is one
edge-some : (ms : List Mark) → is_slash (get_or ms (edge Blanks ms - 1) Text) ≡ true → 0 < edge Blanks ms
edge-some ms is =
    ⊎_elim (λ h. h)
    (λ h.
    let none : edge Blanks ms ≡ 0 = omega arith in
    let all : Passes Blanks ms = subst (λ n. Passes Blanks (drop n ms)) none (run_behind Blanks ms) in
    let first : is_slash (get_or ms 0 Text) ≡ true = subst (λ n. is_slash (get_or ms (n - 1) Text) ≡ true) none is in
    ⊎_elim
    (λ lt. absurd (true≢false (sym (All-get_or (λ m. passes Blanks m ≡ true) ms 0 Text lt all) ∙ slashes (get_or ms 0 Text) first)))
    (λ ge. absurd (true≢false (sym first ∙ past ms (omega arith))))
    (cases_lt 0 (length ms)))
    (cases_lt 0 (edge Blanks ms))

-- the bytes up to `n`, the edge less one slash, and those behind
module _ (bs : List ℕ) where
  at_plain : is_slash (get_or (marks false bs) (edge Blanks (marks false bs) - 1) Text) ≡ false → BodyEnd (take (edge Blanks (marks false bs)) bs) (drop (edge Blanks (marks false bs)) bs)
  at_plain is =
      let e : ℕ = edge Blanks (marks false bs) in
      let ms = marks false bs in
      plain
      (ap (suffix_len (passes Loose)) (marks-take e false bs)
      ∙ ⊎_elim
      (λ more.
      let on : edge Blanks (marks false bs) ≡ edge Blanks (marks false bs) - 1 + 1 = omega arith in
      ap (λ n. suffix_len (passes Loose) (take n ms)) on ∙ no_slash ms (e - 1) (omega arith) on is)
      (λ less.
      let zero-edge : edge Blanks (marks false bs) ≡ 0 = omega arith in
      ap (λ n. suffix_len (passes Loose) (take n ms)) zero-edge)
      (cases_lt 0 e))
      (subst (Passes Blanks) (sym (marks-drop e false bs)) (run_behind Blanks ms))

  at_slashed : is_slash (get_or (marks false bs) (edge Blanks (marks false bs) - 1) Text) ≡ true → BodyEnd (take (edge Blanks (marks false bs) - 1) bs) (drop (edge Blanks (marks false bs) - 1) bs)
  at_slashed is =
      let ms = marks false bs in
      let k : ℕ = edge Blanks (marks false bs) - 1 in
      let long = length-marks false bs in
      let more = edge-some (marks false bs) is in
      let on : edge Blanks (marks false bs) - 1 + 1 ≡ edge Blanks (marks false bs) = omega arith in
      let lt : edge Blanks (marks false bs) - 1 < length bs = omega arith in
      let here = step bs k (leaves false (take k bs)) lt (sym (marks-drop k false bs)) in
      let out = slash_outside (leaves false (take k bs)) (get_or bs k 0) (ap is_slash (sym here.mark) ∙ is) in
      subst (BodyEnd (take k bs)) (ap (λ b. b ∷ drop (k + 1) bs) (sym out.1.0) ∙ sym (drop_more bs k 0 lt))
      (slashed out.0
      (subst (Passes Blanks) (here.next ∙ ap (λ s. marks s (drop (k + 1) bs)) out.1.1)
      (subst (λ n. Passes Blanks (drop n ms)) (sym on) (run_behind Blanks ms))))

  body_end : BodyEnd (take (body_len (marks false bs)) bs) (drop (body_len (marks false bs)) bs)
  body_end =
      let e : ℕ = edge Blanks (marks false bs) in
      ⊎_elim
      (λ is. subst (λ n. BodyEnd (take n bs) (drop n bs)) (sym (cond-true _ (e - 1) e is)) (at_slashed is))
      (λ is. subst (λ n. BodyEnd (take n bs) (drop n bs)) (sym (cond-false _ (e - 1) e is)) (at_plain is))
      (cases_Bool (is_slash (get_or (marks false bs) (e - 1) Text)))

-- a blank stretch is one that is all blanks
pub blank_reads : (bs : List ℕ) → is_blank bs ≡ true → Reads Blanks false bs
blank_reads bs is =
    let n : prefix_len (passes Blanks) (marks false bs) ≡ length bs = eqb-true _ _ is in
    subst (Passes Blanks) (take_all (prefix_len (passes Blanks) (marks false bs)) (marks false bs) (omega (arith, length-marks false bs))) (all_leading (passes Blanks) (marks false bs))

held : (p : ℕ) (mid : List ℕ) → Held p mid (cond (is_blank mid) [] (cut_items (p, mid)))
held p mid =
    ⊎_elim
    (λ is. subst (Held p mid) (sym (cond-true _ [] (cut_items (p, mid)) is)) (none (blank_reads mid is)))
    (λ is.
    subst (Held p mid) (sym (cond-false _ [] (cut_items (p, mid)) is))
    (some (λ h. eqb-false _ _ is (all_led (passes Blanks) (marks false mid) h ∙ length-marks false mid)) (cut_parted (p, mid))))
    (cases_Bool (is_blank mid))

pub body_parted : BodyParted
body_parted p bs =
    let n : ℕ = body_len (marks false bs) in
    (take n bs, (drop n bs, (sym (take-append-drop n bs), (body_end bs, held p (take n bs)))))
