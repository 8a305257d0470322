-- A line break is a slash. Assumes nothing.
use Rattle.std.proofs.Common.{◌≡◌, ℕ, ◌+◌, ◌-◌, ◌<◌, Bool, true, false, cond, List, [], ◌∷◌, ◌++◌, map, reverse, length, take, drop, refl, ap, ap₂, ◌∙◌, sym, append_assoc, append-nil, arith, eq-eqb, ne_eqb}
use Rattle.items.proofs.Outside.{begins_outside, ends_outside}
use Rattle.items.proofs.Parting.{all_led, leaves-append, marks-append, trims}
use Rattle.items.proofs.Scan.{ending-push, length-marks}
use Rattle.items.specs.Breaks.{BreaksAreSlashes, bytes_of, one_line}
use Rattle.items.specs.declared.mark.Mark.{Mark}
use Rattle.items.specs.declared.mark.Run.{Run}
use Rattle.items.specs.declared.mark.Run.TheVariants.{Blanks, Loose}
use Rattle.items.specs.Items.{cut_items, message_items, pieces, trimmed}
use Rattle.items.specs.Marks.{after, core, edge, is_slash, mark_of, marks, passes}
use Rattle.items.specs.Parting.{Reads, leaves}
use Rattle.reader.specs.Lines.{Piece}
use Rattle.std.proofs.lemmas.Bool.{cond-false, cond-true}
use Rattle.std.proofs.lemmas.List.Folds.{prefix_len-append}
use Rattle.std.proofs.lemmas.List.{drop_at, length-append, length-reverse, map-append, reverse-append, take_at}
use Rattle.std.specs.List.{AllByRecursion, flat_map, prefix_len, suffix_len}

-- the bytes of the items that are cut from xs, behind a piece read as far as `part`
abbrev cut_from : ℕ → List ℕ → Bool → List ℕ → List (List ℕ)
cut_from p part s xs = bytes_of (map (trimmed Blanks) (pieces p part s xs))

-- they do not depend on the place
anywhere : (p q : ℕ) (part : List ℕ) (s : Bool) (xs : List ℕ) → cut_from p part s xs ≡ cut_from q part s xs
anywhere p q part s [] = refl
anywhere p q part s (b ∷ bs) =
    elim (is_slash (mark_of s b)) as (λ v. bytes_of (map (trimmed Blanks) (cond v ((p, part) ∷ pieces (p + length part + 1) [] (after s b) bs) (pieces p (part ++ b ∷ []) (after s b) bs))) ≡ bytes_of (map (trimmed Blanks) (cond v ((q, part) ∷ pieces (q + length part + 1) [] (after s b) bs) (pieces q (part ++ b ∷ []) (after s b) bs)))) [
      | true ↦ ap (λ l. core Blanks part ∷ l) (anywhere (p + length part + 1) (q + length part + 1) [] (after s b) bs)
      | false ↦ anywhere p q (part ++ b ∷ []) (after s b) bs
    ]

-- a slash outside comments parts the items
at_slash : (p q : ℕ) (part : List ℕ) (s : Bool) (xs ys : List ℕ) → leaves s xs ≡ false → cut_from p part s (xs ++ 47 ∷ ys) ≡ cut_from p part s xs ++ cut_from q [] false ys
at_slash p q part s [] ys out =
    ap (λ t. cut_from p part t (47 ∷ ys)) out ∙ ap (λ l. core Blanks part ∷ l) (anywhere (p + length part + 1) q [] false ys)
at_slash p q part s (b ∷ bs) ys out =
    elim (is_slash (mark_of s b)) as (λ v. bytes_of (map (trimmed Blanks) (cond v ((p, part) ∷ pieces (p + length part + 1) [] (after s b) (bs ++ 47 ∷ ys)) (pieces p (part ++ b ∷ []) (after s b) (bs ++ 47 ∷ ys)))) ≡ bytes_of (map (trimmed Blanks) (cond v ((p, part) ∷ pieces (p + length part + 1) [] (after s b) bs) (pieces p (part ++ b ∷ []) (after s b) bs))) ++ cut_from q [] false ys) [
      | true ↦ ap (λ l. core Blanks part ∷ l) (at_slash (p + length part + 1) q [] (after s b) bs ys out)
      | false ↦ at_slash p q (part ++ b ∷ []) (after s b) bs ys out
    ]

-- a stretch less its loose ends leaves no comment open
closed : (s : Bool) (xs : List ℕ) → prefix_len (passes Loose) (marks s xs) ≡ 0 → suffix_len (passes Loose) (marks s xs) ≡ 0 → leaves false xs ≡ false
closed s [] f l = refl
closed s (x ∷ xs) f l = ap (λ t. leaves t (x ∷ xs)) (sym (begins_outside Loose refl s x xs f)) ∙ ends_outside Loose refl s x xs l

core_closed : (bs : List ℕ) → leaves false (core Loose bs) ≡ false
core_closed bs = let t = trims Loose 0 bs in closed (leaves false t.front) (core Loose bs) t.first t.last

of_line : (q : Piece) → bytes_of (message_items q.0 q.1) ≡ cut_from 0 [] false (core Loose q.1)
of_line q = anywhere (q.0 + prefix_len (passes Loose) (marks false q.1)) 0 [] false (core Loose q.1)

joined : (first : Piece) (more : List Piece) → bytes_of (message_items first.0 first.1 ++ flat_map (λ q. message_items q.0 q.1) more) ≡ bytes_of (cut_items (0, one_line first.1 (bytes_of more)))
joined first [] = ap bytes_of (append-nil (message_items first.0 first.1)) ∙ of_line first
joined first (next ∷ more) =
    map-append (λ q. q.1) (message_items first.0 first.1) (flat_map (λ q. message_items q.0 q.1) (next ∷ more))
    ∙ ap₂ (λ x y. x ++ y) (of_line first) (joined next more)
    ∙ sym (at_slash 0 0 [] false (core Loose first.1) (one_line next.1 (bytes_of more)) (core_closed first.1))

module _ (p : Mark → Bool) where
  leading : (xs ys : List Mark) → AllByRecursion (λ m. p m ≡ true) xs → prefix_len p (xs ++ ys) ≡ length xs + prefix_len p ys
  leading xs ys h = prefix_len-append p xs ys ∙ cond-true _ _ _ (eq-eqb _ _ (all_led p xs h))

  -- a run stops where the next mark does not pass
  stopping : (xs ys : List Mark) → 0 < length xs → prefix_len p xs ≡ 0 → prefix_len p (xs ++ ys) ≡ 0
  stopping xs ys lt h = prefix_len-append p xs ys ∙ cond-false _ _ _ (ne_eqb (prefix_len p xs) (length xs) (λ e. omega arith)) ∙ h

  trailing : (xs ys : List Mark) → AllByRecursion (λ m. p m ≡ true) ys → suffix_len p (xs ++ ys) ≡ length ys + suffix_len p xs
  trailing xs [] h = ap (suffix_len p) (append-nil xs) ∙ omega arith
  trailing xs (y ∷ ys) h =
      let one : suffix_len p (xs ++ y ∷ []) ≡ 1 + suffix_len p xs = ending-push p xs y ∙ cond-true (p y) _ _ h.0 in
      ap (suffix_len p) (sym (append_assoc xs (y ∷ []) ys)) ∙ trailing (xs ++ y ∷ []) ys h.1 ∙ omega arith

  ending : (xs ys : List Mark) → 0 < length ys → suffix_len p ys ≡ 0 → suffix_len p (xs ++ ys) ≡ 0
  ending xs ys lt h = ap (prefix_len p) (reverse-append xs ys) ∙ stopping (reverse ys) (reverse xs) (omega (arith, length-reverse ys)) h

-- what is left of a stretch less its loose ends is its core
module _ (run : Run) (bs front item back : List ℕ) (whole : bs ≡ front ++ (item ++ back)) (before : Reads run false front) (behind : Reads run (leaves false (front ++ item)) back) where
  long : length (marks false bs) ≡ length front + (length item + length back)
  long = length-marks false bs ∙ ap length whole ∙ length-append front (item ++ back) ∙ ap (λ n. length front + n) (length-append item back)

  all : marks false bs ≡ marks false front ++ (marks (leaves false front) item ++ marks (leaves false (front ++ item)) back)
  all =
      ap (marks false) whole
      ∙ marks-append false front (item ++ back)
      ∙ ap (λ l. marks false front ++ l) (marks-append (leaves false front) item back ∙ ap (λ s. marks (leaves false front) item ++ marks s back) (sym (leaves-append false front item)))

  core_some : 0 < length item → prefix_len (passes run) (marks (leaves false front) item) ≡ 0 → suffix_len (passes run) (marks (leaves false front) item) ≡ 0 → core run bs ≡ item
  core_some lt first last =
      let fs = marks false front in
      let ms = marks (leaves false front) item in
      let ks = marks (leaves false (front ++ item)) back in
      let some : 0 < length (marks (leaves false front) item) = omega (arith, length-marks (leaves false front) item) in
      let lead : prefix_len (passes run) (marks false bs) ≡ length front =
      ap (prefix_len (passes run)) all ∙ leading (passes run) fs (ms ++ ks) before ∙ omega (arith, stopping (passes run) ms ks some first, length-marks false front)
      in
      let tail : suffix_len (passes run) (marks false bs) ≡ length back =
      ap (suffix_len (passes run)) (all ∙ sym (append_assoc fs ms ks))
      ∙ trailing (passes run) (fs ++ ms) ks behind
      ∙ omega (arith, ending (passes run) fs ms some last, length-marks (leaves false (front ++ item)) back)
      in
      let rest : edge run (marks false bs) - prefix_len (passes run) (marks false bs) ≡ length item = omega (arith, lead, tail, long) in
      ap₂ (λ i n. take n (drop i bs)) lead rest
      ∙ ap (λ l. take (length item) (drop (length front) l)) whole
      ∙ ap (take (length item)) (drop_at front (item ++ back) (length front) refl)
      ∙ take_at item back (length item) refl

core_none : (run : Run) (bs front back : List ℕ) → bs ≡ front ++ back → Reads run false front → Reads run (leaves false (front ++ [])) back → core run bs ≡ []
core_none run bs front back whole before behind =
    let tail : suffix_len (passes run) (marks false bs) ≡ length (marks false bs) =
    ap (suffix_len (passes run)) (all run bs front [] back whole before behind)
    ∙ trailing (passes run) (marks false front) (marks (leaves false (front ++ [])) back) behind
    ∙ omega (arith, trailing (passes run) [] (marks false front) before, length-marks false front, length-marks (leaves false (front ++ [])) back, long run bs front [] back whole before behind)
    in
    let none : edge run (marks false bs) - prefix_len (passes run) (marks false bs) ≡ 0 = omega (arith, tail) in
    ap (λ n. take n (drop (prefix_len (passes run) (marks false bs)) bs)) none

cored : (run : Run) (bs front item back : List ℕ) → bs ≡ front ++ (item ++ back) → Reads run false front → Reads run (leaves false (front ++ item)) back → prefix_len (passes run) (marks (leaves false front) item) ≡ 0 → suffix_len (passes run) (marks (leaves false front) item) ≡ 0 → core run bs ≡ item
cored run bs front [] back whole before behind first last = core_none run bs front back whole before behind
cored run bs front (x ∷ xs) back whole before behind first last = core_some run bs front (x ∷ xs) back whole before behind (omega arith) first last

pub breaks_are_slashes : BreaksAreSlashes
breaks_are_slashes = record {
  ends = λ p bs item t. cored Loose bs t.front item.1 t.back t.whole t.before t.behind t.first t.last;
  joined = joined;
}
