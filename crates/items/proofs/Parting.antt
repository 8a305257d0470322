-- The items of a line part it. Assumes nothing.
use Rattle.std.proofs.Common.{◌≡◌, ℕ, zero, suc, ◌+◌, ◌-◌, ◌<◌, ◌≤◌, Bool, true, false, List, [], ◌∷◌, ◌++◌, map, reverse, length, get_or, take, drop, sym, refl, ap, ◌∙◌, subst, ⊎_elim, append_assoc, append-nil, add-one, one-add, arith}
use Rattle.items.proofs.Cuts.{goes_on, slash_outside}
use Rattle.items.proofs.Scan.{edge_more_falls, edge_more_stays, ending-push, length-marks}
use Rattle.items.specs.declared.mark.Mark.{Mark}
use Rattle.items.specs.declared.mark.Mark.TheVariants.{Text}
use Rattle.items.specs.declared.mark.Run.{Run}
use Rattle.items.specs.declared.mark.Run.TheVariants.{Blanks, Loose, Stretch}
use Rattle.items.specs.Items.{cut_items, pieces, trimmed}
use Rattle.items.specs.Marks.{after, edge, is_slash, mark_of, marks, passes}
use Rattle.items.specs.Parting.{MessageParted, Parted, Reads, Trimmed, leaves, only, slash}
use Rattle.reader.specs.Lines.{Piece}
use Rattle.std.proofs.ByRecursion.{All-drop, All-push}
use Rattle.std.proofs.lemmas.List.{drop_all, drop-append-le, drop-drop, drop-take, length-take-le, reverse-append, take_all, take-append-drop, take_more}
use Rattle.std.proofs.lemmas.List.Sums.{prefix_len-le-length}
use Rattle.std.proofs.lemmas.Bool.{cases_Bool, cases_lt, cond-false, cond-true}
use Rattle.std.specs.List.{suffix_len, prefix_len, AllByRecursion}

-- marks of a front and of what follows it
pub marks-take : (n : ℕ) (s : Bool) (xs : List ℕ) → marks s (take n xs) ≡ take n (marks s xs)
marks-take zero s xs = refl
marks-take (suc n) s [] = refl
marks-take (suc n) s (x ∷ xs) = ap (λ l. mark_of s x ∷ l) (marks-take n (after s x) xs)

pub marks-drop : (n : ℕ) (s : Bool) (xs : List ℕ) → marks (leaves s (take n xs)) (drop n xs) ≡ drop n (marks s xs)
marks-drop zero s xs = refl
marks-drop (suc n) s [] = refl
marks-drop (suc n) s (x ∷ xs) = marks-drop n (after s x) xs

pub leaves-append : (s : Bool) (xs ys : List ℕ) → leaves s (xs ++ ys) ≡ leaves (leaves s xs) ys
leaves-append s [] ys = refl
leaves-append s (x ∷ xs) ys = leaves-append (after s x) xs ys

pub marks-append : (s : Bool) (xs ys : List ℕ) → marks s (xs ++ ys) ≡ marks s xs ++ marks (leaves s xs) ys
marks-append s [] ys = refl
marks-append s (x ∷ xs) ys = ap (λ l. mark_of s x ∷ l) (marks-append (after s x) xs ys)

module _ (p : Mark → Bool) where
  -- the run at the front passes, and what follows it begins with no run
  pub all_leading : (ms : List Mark) → AllByRecursion (λ m. p m ≡ true) (take (prefix_len p ms) ms)
  all_leading [] = tt
  all_leading (m ∷ ms) =
      ⊎_elim
      (λ is. subst (λ n. AllByRecursion (λ m. p m ≡ true) (take n (m ∷ ms))) (sym (cond-true (p m) (1 + prefix_len p ms) 0 is ∙ one-add (prefix_len p ms))) (is, all_leading ms))
      (λ is. subst (λ n. AllByRecursion (λ m. p m ≡ true) (take n (m ∷ ms))) (sym (cond-false (p m) (1 + prefix_len p ms) 0 is)) tt)
      (cases_Bool (p m))

  pub no_leading : (ms : List Mark) → prefix_len p (drop (prefix_len p ms) ms) ≡ 0
  no_leading [] = refl
  no_leading (m ∷ ms) =
      ⊎_elim
      (λ is. ap (λ n. prefix_len p (drop n (m ∷ ms))) (cond-true (p m) (1 + prefix_len p ms) 0 is ∙ one-add (prefix_len p ms)) ∙ no_leading ms)
      (λ is. ap (λ n. prefix_len p (drop n (m ∷ ms))) (cond-false (p m) (1 + prefix_len p ms) 0 is) ∙ cond-false _ _ _ is)
      (cases_Bool (p m))

  pub all_led : (ms : List Mark) → AllByRecursion (λ m. p m ≡ true) ms → prefix_len p ms ≡ length ms
  all_led [] h = refl
  all_led (m ∷ ms) h = cond-true (p m) _ _ h.0 ∙ omega (arith, all_led ms h.1)

  -- a front of what begins with no run begins with none
  leading_front : (xs ys : List Mark) → prefix_len p (xs ++ ys) ≡ 0 → prefix_len p xs ≡ 0
  leading_front [] ys h = refl
  leading_front (x ∷ xs) ys h =
      ⊎_elim
      (λ is. absurd (omega (arith, cond-true (p x) (1 + prefix_len p (xs ++ ys)) 0 is)))
      (λ is. cond-false _ _ _ is)
      (cases_Bool (p x))

  pub ending_rest : (xs ys : List Mark) → suffix_len p (xs ++ ys) ≡ 0 → suffix_len p ys ≡ 0
  ending_rest xs ys h = leading_front (reverse ys) (reverse xs) (ap (prefix_len p) (sym (reverse-append xs ys)) ∙ h)

abbrev pub Passes : Run → List Mark → Type 0
Passes run ms = AllByRecursion (λ m. passes run m ≡ true) ms

-- behind the edge only the run is left, and before it none, for each front of the marks
module _ (run : Run) (ms : List Mark) where
  edge_le : (i : ℕ) → i ≤ length ms → edge run (take i ms) ≤ length (take i ms)
  edge_le i h = omega arith

  past_edge : (i : ℕ) → i ≤ length ms → Passes run (drop (edge run (take i ms)) (take i ms))
  past_edge zero h = tt
  past_edge (suc i) h =
      let lt : i < length ms = h in
      let long = length-take-le i ms (omega arith) in
      let m = get_or ms i Text in
      subst (λ k. Passes run (drop (edge run (take k ms)) (take k ms))) (add-one i)
      (⊎_elim
      (λ is.
      let same : drop (edge run (take (i + 1) ms)) (take (i + 1) ms) ≡ drop (edge run (take i ms)) (take i ms) ++ get_or ms i Text ∷ [] =
      ap (λ k. drop k (take (i + 1) ms)) (edge_more_falls ms i lt run is)
      ∙ ap (drop (edge run (take i ms))) (take_more ms i Text lt)
      ∙ drop-append-le (edge run (take i ms)) (take i ms) (get_or ms i Text ∷ []) (edge_le i (omega arith))
      in
      subst (Passes run) (sym same) (All-push (λ k. passes run k ≡ true) (drop (edge run (take i ms)) (take i ms)) m (past_edge i (omega arith)) is))
      (λ is.
      let same : drop (edge run (take (i + 1) ms)) (take (i + 1) ms) ≡ [] =
      ap (λ k. drop k (take (i + 1) ms)) (edge_more_stays ms i lt run is) ∙ drop_all (i + 1) (take (i + 1) ms) (omega (arith, length-take-le (i + 1) ms (omega arith)))
      in
      subst (Passes run) (sym same) tt)
      (cases_Bool (passes run (get_or ms i Text))))

  before_edge : (i : ℕ) → i ≤ length ms → suffix_len (passes run) (take (edge run (take i ms)) ms) ≡ 0
  before_edge zero h = refl
  before_edge (suc i) h =
      let lt : i < length ms = h in
      subst (λ k. suffix_len (passes run) (take (edge run (take k ms)) ms) ≡ 0) (add-one i)
      (⊎_elim
      (λ is. ap (λ k. suffix_len (passes run) (take k ms)) (edge_more_falls ms i lt run is) ∙ before_edge i (omega arith))
      (λ is.
      ap (λ k. suffix_len (passes run) (take k ms)) (edge_more_stays ms i lt run is)
      ∙ ap (suffix_len (passes run)) (take_more ms i Text lt)
      ∙ ending-push (passes run) (take i ms) (get_or ms i Text)
      ∙ cond-false _ _ _ is)
      (cases_Bool (passes run (get_or ms i Text))))

  pub run_behind : Passes run (drop (edge run ms) ms)
  run_behind = subst (λ l. Passes run (drop (edge run l) l)) (take_all (length ms) ms (omega arith)) (past_edge (length ms) (omega arith))

  pub none_before : suffix_len (passes run) (take (edge run ms) ms) ≡ 0
  none_before = subst (λ l. suffix_len (passes run) (take (edge run l) ms) ≡ 0) (take_all (length ms) ms (omega arith)) (before_edge (length ms) (omega arith))

-- the bytes around a core of n bytes behind `lead`
module _ (run : Run) (bs : List ℕ) (lead n : ℕ) (leads : prefix_len (passes run) (marks false bs) ≡ lead) (rest : edge run (marks false bs) - lead ≡ n) where
  whole : bs ≡ take lead bs ++ (take n (drop lead bs) ++ drop n (drop lead bs))
  whole = sym (take-append-drop lead bs) ∙ ap (λ l. take lead bs ++ l) (sym (take-append-drop n (drop lead bs)))

  before : Reads run false (take lead bs)
  before = subst (Passes run) (ap (λ k. take k (marks false bs)) leads ∙ sym (marks-take lead false bs)) (all_leading (passes run) (marks false bs))

  back_marks : marks (leaves false (take lead bs ++ take n (drop lead bs))) (drop n (drop lead bs)) ≡ drop (lead + n) (marks false bs)
  back_marks =
      ap (λ s. marks s (drop n (drop lead bs))) (leaves-append false (take lead bs) (take n (drop lead bs)))
      ∙ marks-drop n (leaves false (take lead bs)) (drop lead bs)
      ∙ ap (drop n) (marks-drop lead false bs)
      ∙ drop-drop n lead (marks false bs)

  behind : Reads run (leaves false (take lead bs ++ take n (drop lead bs))) (drop n (drop lead bs))
  behind =
      let e : ℕ = edge run (marks false bs) in
      let on : edge run (marks false bs) + (lead + n - edge run (marks false bs)) ≡ lead + n = omega arith in
      subst (Passes run) (drop-drop (lead + n - e) e (marks false bs) ∙ ap (λ k. drop k (marks false bs)) on ∙ sym back_marks) (All-drop (λ m. passes run m ≡ true) (lead + n - e) (drop e (marks false bs)) (run_behind run (marks false bs)))

  core-marks : marks (leaves false (take lead bs)) (take n (drop lead bs)) ≡ take n (drop lead (marks false bs))
  core-marks = marks-take n (leaves false (take lead bs)) (drop lead bs) ∙ ap (take n) (marks-drop lead false bs)

  pub first : prefix_len (passes run) (marks (leaves false (take lead bs)) (take n (drop lead bs))) ≡ 0
  first =
      let ks = drop lead (marks false bs) in
      ap (prefix_len (passes run)) core-marks
      ∙ leading_front (passes run) (take n ks) (drop n ks) (ap (prefix_len (passes run)) (take-append-drop n ks) ∙ subst (λ k. prefix_len (passes run) (drop k (marks false bs)) ≡ 0) leads (no_leading (passes run) (marks false bs)))

  last : suffix_len (passes run) (marks (leaves false (take lead bs)) (take n (drop lead bs))) ≡ 0
  last =
      let e : ℕ = edge run (marks false bs) in
      let ms = marks false bs in
      ap (suffix_len (passes run)) core-marks
      ∙ ⊎_elim
      (λ lt.
      let on : lead + n ≡ edge run (marks false bs) = omega arith in
      ap (suffix_len (passes run)) (sym (drop-take lead n ms) ∙ ap (λ k. drop lead (take k ms)) on)
      ∙ ending_rest (passes run) (take lead (take e ms)) (drop lead (take e ms)) (ap (suffix_len (passes run)) (take-append-drop lead (take e ms)) ∙ none_before run ms))
      (λ ge.
      let none : n ≡ 0 = omega arith in
      ap (λ k. suffix_len (passes run) (take k (drop lead ms))) none)
      (cases_lt lead e)

  pub around : (p : ℕ) → Trimmed run p bs (p + lead, take n (drop lead bs))
  around p =
      let short : lead ≤ length bs = omega (arith, prefix_len-le-length (passes run) (marks false bs), length-marks false bs) in
      record {
        front = take lead bs;
        back = drop n (drop lead bs);
        whole = whole;
        place = ap (λ k. p + k) (sym (length-take-le lead bs short));
        before = before;
        behind = behind;
        first = first;
        last = last;
      }

pub trims : (run : Run) (p : ℕ) (bs : List ℕ) → Trimmed run p bs (trimmed run (p, bs))
trims run p bs = around run bs (prefix_len (passes run) (marks false bs)) (edge run (marks false bs) - prefix_len (passes run) (marks false bs)) refl refl p

-- one byte more that is no slash
module _ (part : List ℕ) (s : Bool) (b : ℕ) (at : leaves false part ≡ s) where
  pub leaves-push : leaves false (part ++ b ∷ []) ≡ after s b
  leaves-push = leaves-append false part (b ∷ []) ∙ ap (λ t. after t b) at

  uncut_push : Reads Stretch false part → is_slash (mark_of s b) ≡ false → Reads Stretch false (part ++ b ∷ [])
  uncut_push h is =
      subst (Passes Stretch) (sym (marks-append false part (b ∷ []) ∙ ap (λ t. marks false part ++ mark_of t b ∷ []) at))
      (All-push (λ m. passes Stretch m ≡ true) (marks false part) (mark_of s b) h (goes_on (mark_of s b) is))

from : (p : ℕ) (part : List ℕ) (s : Bool) (xs : List ℕ) → Reads Stretch false part → leaves false part ≡ s → Parted p (part ++ xs) (map (trimmed Blanks) (pieces p part s xs))
from p part s [] h at = subst (λ l. Parted p l (trimmed Blanks (p, part) ∷ [])) (sym (append-nil part)) (only h (trims Blanks p part))
from p part s (b ∷ bs) h at =
    ⊎_elim
    (λ is.
    let out = slash_outside s b is in
    subst (λ l. Parted p (part ++ b ∷ bs) (map (trimmed Blanks) l)) (sym (cond-true (is_slash (mark_of s b)) ((p, part) ∷ pieces (p + length part + 1) [] (after s b) bs) (pieces p (part ++ b ∷ []) (after s b) bs) is))
    (subst (λ x. Parted p (part ++ x ∷ bs) (map (trimmed Blanks) ((p, part) ∷ pieces (p + length part + 1) [] (after s b) bs))) (sym out.1.0)
    (slash part h (at ∙ out.0) (trims Blanks p part) (from (p + length part + 1) [] (after s b) bs tt (sym out.1.1)))))
    (λ is.
    subst (λ l. Parted p (part ++ b ∷ bs) (map (trimmed Blanks) l)) (sym (cond-false (is_slash (mark_of s b)) ((p, part) ∷ pieces (p + length part + 1) [] (after s b) bs) (pieces p (part ++ b ∷ []) (after s b) bs) is))
    (subst (λ l. Parted p l (map (trimmed Blanks) (pieces p (part ++ b ∷ []) (after s b) bs))) (append_assoc part (b ∷ []) bs)
    (from p (part ++ b ∷ []) (after s b) bs (uncut_push part s b at h is) (leaves-push part s b at))))
    (cases_Bool (is_slash (mark_of s b)))

pub cut_parted : (q : Piece) → Parted q.0 q.1 (cut_items q)
cut_parted q = from q.0 [] false q.1 tt refl

pub message_parted : MessageParted
message_parted p bs = (trimmed Loose (p, bs), (trims Loose p bs, cut_parted (trimmed Loose (p, bs))))
