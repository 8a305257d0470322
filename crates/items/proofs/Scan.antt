-- How a scan of bytes keeps what they read as. Assumes nothing.
use Rattle.std.proofs.Common.{◌≡◌, ℕ, suc, ◌+◌, ◌<◌, Bool, true, false, cond, not, nat_lt, Some, None, List, [], ◌∷◌, ◌++◌, length, get_or, take, drop, refl, ap, ◌∙◌, arith}
use Rattle.items.specs.declared.mark.Mark.{Mark}
use Rattle.items.specs.declared.mark.Mark.TheVariants.{Text}
use Rattle.items.specs.declared.mark.Run.{Run}
use Rattle.items.specs.Marks.{after, edge, mark_of, marks, passes}
use Rattle.std.proofs.lemmas.List.{at_drop_more, drop_more, length_push, length-take-le, reverse-append, take_more}
use Rattle.std.proofs.lemmas.Bool.{cond_both, cond-false, cond-true, ltb-false}
use Rattle.std.proofs.lemmas.List.Sums.{prefix_len-le-length}
use Rattle.std.specs.List.{position, position_or_len, prefix_len, suffix_len}
use Rattle.std.specs.Option.{unwrap_or}

pub length-marks : (s : Bool) (xs : List ℕ) → length (marks s xs) ≡ length xs
length-marks s [] = refl
length-marks s (x ∷ xs) = ap suc (length-marks (after s x) xs)

-- a run ends at the first mark that does not pass
stop_len : (p : Mark → Bool) (ms : List Mark) → position_or_len (λ m. not (p m)) ms ≡ prefix_len p ms
stop_len p [] = refl
stop_len p (m ∷ ms) = elim (p m) as (λ v. cond (not (not v)) (1 + position_or_len (λ k. not (p k)) ms) 0 ≡ cond v (1 + prefix_len p ms) 0) [ true ↦ ap (λ n. 1 + n) (stop_len p ms) | false ↦ refl ]

pub run_is : (p : Mark → Bool) (ms : List Mark) (n : ℕ) → n ≡ length ms → unwrap_or (position (λ m. not (p m)) ms) n ≡ prefix_len p ms
run_is p ms n e =
    let k : ℕ = prefix_len p ms in
    ap (λ j. unwrap_or (cond (nat_lt j (length ms)) (Some j) None) n) (stop_len p ms)
    ∙ cond_both (nat_lt k (length ms)) (Some k) None (λ o. unwrap_or o n ≡ k) (λ _. refl) (λ no. omega (arith, e, prefix_len-le-length p ms, ltb-false (prefix_len p ms) (length ms) no))

-- the scan of xs has come to i, with s for whether a comment is open there
abbrev pub Open : List ℕ → ℕ → Bool → Type 0
Open xs i s = drop i (marks false xs) ≡ marks s (drop i xs)

pub record Step (xs : List ℕ) (i : ℕ) (s : Bool) : Type 0 where
  pub mark : get_or (marks false xs) i Text ≡ mark_of s (get_or xs i 0)
  pub next : Open xs (i + 1) (after s (get_or xs i 0))

pub step : (xs : List ℕ) (i : ℕ) (s : Bool) → i < length xs → Open xs i s → Step xs i s
step xs i s lt h =
    let long = length-marks false xs in
    let front : drop i (marks false xs) ≡ get_or (marks false xs) i Text ∷ drop (i + 1) (marks false xs) = drop_more (marks false xs) i Text (omega arith) in
    let back : drop i (marks false xs) ≡ mark_of s (get_or xs i 0) ∷ marks (after s (get_or xs i 0)) (drop (i + 1) xs) = h ∙ at_drop_more (marks s) xs i 0 lt in
    record { mark = cc; next = cc }

-- one byte more at the end
pub ending-push : (p : Mark → Bool) (ms : List Mark) (m : Mark) → suffix_len p (ms ++ m ∷ []) ≡ cond (p m) (1 + suffix_len p ms) 0
ending-push p ms m = ap (prefix_len p) (reverse-append ms (m ∷ []))

module _ (run : Run) (ms : List Mark) (m : Mark) where
  pub edge_falls : passes run m ≡ true → edge run (ms ++ m ∷ []) ≡ edge run ms
  edge_falls is = omega (arith, length_push ms m, ending-push (passes run) ms m ∙ cond-true (passes run m) (1 + suffix_len (passes run) ms) 0 is)

  pub edge_stays : passes run m ≡ false → edge run (ms ++ m ∷ []) ≡ length ms + 1
  edge_stays is = omega (arith, length_push ms m, ending-push (passes run) ms m ∙ cond-false (passes run m) (1 + suffix_len (passes run) ms) 0 is)

-- the same, of the front of a list
module _ (ys : List Mark) (i : ℕ) (lt : i < length ys) where
  grown : {A : Type 0} (f : List Mark → A) (m : Mark) → get_or ys i Text ≡ m → f (take (i + 1) ys) ≡ f (take i ys ++ m ∷ [])
  grown f m is = ap f (take_more ys i Text lt ∙ ap (λ x. take i ys ++ x ∷ []) is)

  long : length (take i ys) ≡ i
  long = length-take-le i ys (omega arith)

  pub edge_more_falls : (run : Run) → passes run (get_or ys i Text) ≡ true → edge run (take (i + 1) ys) ≡ edge run (take i ys)
  edge_more_falls run is = grown (edge run) _ refl ∙ edge_falls run (take i ys) (get_or ys i Text) is

  pub edge_more_stays : (run : Run) → passes run (get_or ys i Text) ≡ false → edge run (take (i + 1) ys) ≡ i + 1
  edge_more_stays run is = grown (edge run) _ refl ∙ edge_stays run (take i ys) (get_or ys i Text) is ∙ ap (λ n. n + 1) long
