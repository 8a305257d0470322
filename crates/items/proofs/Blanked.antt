-- A line and the line with its comments blanked read alike. Assumes nothing.
use Rattle.std.proofs.Common.{◌≡◌, ℕ, zero, suc, ◌+◌, ◌-◌, ◌<◌, Bool, true, false, cond, eqb, List, [], ◌∷◌, ◌++◌, map, length, take, drop, replicate, Some, None, Option, refl, ap, ap₂, ◌∙◌, sym, subst, ⊎_elim, add-one, arith}
use Rattle.items.proofs.Cuts.{slash_outside}
use Rattle.items.proofs.Found.{outside, reads, word_closed}
use Rattle.items.proofs.Outside.{begins_outside, colon_blank}
use Rattle.items.proofs.Parting.{first, leaves-push}
use Rattle.items.proofs.Scan.{length-marks}
use Rattle.items.specs.Blanked.{CommentsBlanked, ItemsBlanked, NoColon, blanked, blanked_behind, blanked_from, blanked_piece, shown}
use Rattle.items.specs.declared.mark.Mark.TheVariants.{Blank}
use Rattle.items.specs.declared.mark.Run.{Run}
use Rattle.items.specs.declared.mark.Run.TheVariants.{Blanks, Loose, Word}
use Rattle.items.specs.Items.{body_items, cut_items, is_blank, message_items, pieces, trimmed}
use Rattle.items.specs.Marks.{after, body_len, core, edge, is_slash, mark_of, marks, passes}
use Rattle.items.specs.Parting.{Reads, leaves}
use Rattle.items.specs.Words.{code_and_value, first_word, lead_of, split_item, word_len}
use Rattle.reader.specs.Lines.{Piece}
use Rattle.std.proofs.lemmas.Bool.{cases_Bool, cond-false, cond-true, eqb-false, eqb-true, true≢false}
use Rattle.std.proofs.lemmas.List.Sums.{prefix_len-le-length}
use Rattle.std.specs.List.{prefix_len}
use Rattle.std.specs.Option.{option_map}

-- a byte and the blank in its place read alike, and the blank opens no comment
pub shown_mark : (s : Bool) (b : ℕ) → mark_of false (shown s b) ≡ mark_of s b
shown_mark true b = refl
shown_mark false b = ⊎_elim (λ is. ap (mark_of false) (cond-true (eqb b 58) 32 b is) ∙ sym (colon_blank b is)) (λ no. ap (mark_of false) (cond-false (eqb b 58) 32 b no)) (cases_Bool (eqb b 58))

shown_after : (s : Bool) (b : ℕ) → after false (shown s b) ≡ false
shown_after true b = refl
shown_after false b = ⊎_elim (λ is. ap (after false) (cond-true (eqb b 58) 32 b is)) (λ no. ap (after false) (cond-false (eqb b 58) 32 b no) ∙ cond-false _ _ _ no) (cases_Bool (eqb b 58))

marks-from : (s : Bool) (bs : List ℕ) → marks false (blanked_from s bs) ≡ marks s bs
marks-from s [] = refl
marks-from s (b ∷ bs) =
    ap (λ m. m ∷ marks (after false (shown s b)) (blanked_from (after s b) bs)) (shown_mark s b)
    ∙ ap (λ t. mark_of s b ∷ marks t (blanked_from (after s b) bs)) (shown_after s b)
    ∙ ap (λ l. mark_of s b ∷ l) (marks-from (after s b) bs)

length-from : (s : Bool) (bs : List ℕ) → length (blanked_from s bs) ≡ length bs
length-from s [] = refl
length-from s (b ∷ bs) = ap suc (length-from (after s b) bs)

from-append : (s : Bool) (xs ys : List ℕ) → blanked_from s (xs ++ ys) ≡ blanked_from s xs ++ blanked_from (leaves s xs) ys
from-append s [] ys = refl
from-append s (x ∷ xs) ys = ap (λ l. shown s x ∷ l) (from-append (after s x) xs ys)

from-take : (n : ℕ) (s : Bool) (xs : List ℕ) → take n (blanked_from s xs) ≡ blanked_from s (take n xs)
from-take zero s xs = refl
from-take (suc n) s [] = refl
from-take (suc n) s (x ∷ xs) = ap (λ l. shown s x ∷ l) (from-take n (after s x) xs)

from-drop : (n : ℕ) (s : Bool) (xs : List ℕ) → drop n (blanked_from s xs) ≡ blanked_from (leaves s (take n xs)) (drop n xs)
from-drop zero s xs = refl
from-drop (suc n) s [] = refl
from-drop (suc n) s (x ∷ xs) = from-drop n (after s x) xs

-- what begins with none of a run that takes blanks, begins outside comments
from-start : (run : Run) → passes run Blank ≡ true → (s : Bool) (xs : List ℕ) → prefix_len (passes run) (marks s xs) ≡ 0 → blanked_from s xs ≡ blanked xs
from-start run takes s [] h = refl
from-start run takes s (x ∷ xs) h = ap (λ t. blanked_from t (x ∷ xs)) (begins_outside run takes s x xs h)

module _ (run : Run) (takes : passes run Blank ≡ true) where
  core-blanked : (bs : List ℕ) → core run (blanked bs) ≡ blanked (core run bs)
  core-blanked bs =
      let lead : ℕ = prefix_len (passes run) (marks false bs) in
      let n : ℕ = edge run (marks false bs) - prefix_len (passes run) (marks false bs) in
      ap (λ ms. take (edge run ms - prefix_len (passes run) ms) (drop (prefix_len (passes run) ms) (blanked bs))) (marks-from false bs)
      ∙ ap (take n) (from-drop lead false bs)
      ∙ from-take n (leaves false (take lead bs)) (drop lead bs)
      ∙ from-start run takes (leaves false (take lead bs)) (take n (drop lead bs)) (first run bs lead n refl refl)

  trimmed-blanked : (q : Piece) → trimmed run (blanked_piece q) ≡ blanked_piece (trimmed run q)
  trimmed-blanked q =
      ap (λ ms. (q.0 + prefix_len (passes run) ms, core run (blanked q.1))) (marks-from false q.1)
      ∙ ap (λ l. (q.0 + prefix_len (passes run) (marks false q.1), l)) (core-blanked q.1)

  all_trimmed : (qs : List Piece) → map (trimmed run) (map blanked_piece qs) ≡ map blanked_piece (map (trimmed run) qs)
  all_trimmed [] = refl
  all_trimmed (q ∷ qs) = ap₂ (λ x l. x ∷ l) (trimmed-blanked q) (all_trimmed qs)

-- one byte more in a piece
push-blanked : (part : List ℕ) (s : Bool) (b : ℕ) → leaves false part ≡ s → blanked (part ++ b ∷ []) ≡ blanked part ++ shown s b ∷ []
push-blanked part s b at = from-append false part (b ∷ []) ∙ ap (λ t. blanked part ++ shown t b ∷ []) at

pieces-blanked : (p : ℕ) (part : List ℕ) (s : Bool) (xs : List ℕ) → leaves false part ≡ s → pieces p (blanked part) false (blanked_from s xs) ≡ map blanked_piece (pieces p part s xs)
pieces-blanked p part s [] at = refl
pieces-blanked p part s (b ∷ bs) at =
    let rest = blanked_from (after s b) bs in
    let alike : pieces p (blanked part) false (shown s b ∷ blanked_from (after s b) bs) ≡ cond (is_slash (mark_of s b)) ((p, blanked part) ∷ pieces (p + length part + 1) [] false (blanked_from (after s b) bs)) (pieces p (blanked part ++ shown s b ∷ []) false (blanked_from (after s b) bs)) =
    ap (λ m. cond (is_slash m) ((p, blanked part) ∷ pieces (p + length (blanked part) + 1) [] (after false (shown s b)) rest) (pieces p (blanked part ++ shown s b ∷ []) (after false (shown s b)) rest)) (shown_mark s b)
    ∙ ap (λ t. cond (is_slash (mark_of s b)) ((p, blanked part) ∷ pieces (p + length (blanked part) + 1) [] t rest) (pieces p (blanked part ++ shown s b ∷ []) t rest)) (shown_after s b)
    ∙ ap (λ n. cond (is_slash (mark_of s b)) ((p, blanked part) ∷ pieces (p + n + 1) [] false rest) (pieces p (blanked part ++ shown s b ∷ []) false rest)) (length-from false part)
    in
    alike
    ∙ ⊎_elim
    (λ is.
    cond-true _ _ _ is
    ∙ ap (λ l. (p, blanked part) ∷ l) (pieces-blanked (p + length part + 1) [] (after s b) bs (sym (slash_outside s b is).1.1))
    ∙ ap (map blanked_piece) (sym (cond-true (is_slash (mark_of s b)) ((p, part) ∷ pieces (p + length part + 1) [] (after s b) bs) (pieces p (part ++ b ∷ []) (after s b) bs) is)))
    (λ no.
    cond-false _ _ _ no
    ∙ ap (λ l. pieces p l false rest) (sym (push-blanked part s b at))
    ∙ pieces-blanked p (part ++ b ∷ []) (after s b) bs (leaves-push part s b at)
    ∙ ap (map blanked_piece) (sym (cond-false (is_slash (mark_of s b)) ((p, part) ∷ pieces (p + length part + 1) [] (after s b) bs) (pieces p (part ++ b ∷ []) (after s b) bs) no)))
    (cases_Bool (is_slash (mark_of s b)))

cut-blanked : (q : Piece) → cut_items (blanked_piece q) ≡ map blanked_piece (cut_items q)
cut-blanked q = ap (map (trimmed Blanks)) (pieces-blanked q.0 [] false q.1 refl) ∙ all_trimmed Blanks refl (pieces q.0 [] false q.1)

message : (p : ℕ) (bs : List ℕ) → message_items p (blanked bs) ≡ map blanked_piece (message_items p bs)
message p bs = ap cut_items (trimmed-blanked Loose refl (p, bs)) ∙ cut-blanked (trimmed Loose (p, bs))

blank-alike : (bs : List ℕ) → is_blank (blanked bs) ≡ is_blank bs
blank-alike bs = ap (λ ms. eqb (prefix_len (passes Blanks) ms) (length (blanked bs))) (marks-from false bs) ∙ ap (eqb (prefix_len (passes Blanks) (marks false bs))) (length-from false bs)

body : (p : ℕ) (bs : List ℕ) → body_items p (blanked bs) ≡ map blanked_piece (body_items p bs)
body p bs =
    let n : ℕ = body_len (marks false bs) in
    let mid = take n bs in
    ap (λ ms. cond (is_blank (take (body_len ms) (blanked bs))) [] (cut_items (p, take (body_len ms) (blanked bs)))) (marks-from false bs)
    ∙ ap (λ l. cond (is_blank l) [] (cut_items (p, l))) (from-take n false bs)
    ∙ ap (λ v. cond v [] (cut_items (p, blanked mid))) (blank-alike mid)
    ∙ elim (is_blank mid) as (λ v. cond v [] (cut_items (p, blanked mid)) ≡ map blanked_piece (cond v [] (cut_items (p, mid)))) [ true ↦ refl | false ↦ cut-blanked (p, mid) ]

-- a word has no colon
plain_byte : (b : ℕ) → passes Word (mark_of false b) ≡ true → eqb b 58 ≡ false
plain_byte b is = ⊎_elim (λ c. absurd (true≢false (sym is ∙ ap (passes Word) (colon_blank b c)))) (λ no. no) (cases_Bool (eqb b 58))

word_kept : (xs : List ℕ) → Reads Word false xs → blanked xs ≡ xs
word_kept [] h = refl
word_kept (x ∷ xs) h =
    let no = plain_byte x h.0 in
    let out : after false x ≡ false = cond-false _ _ _ no in
    ap₂ (λ b l. b ∷ l) (cond-false (eqb x 58) 32 x no)
    (ap (λ t. blanked_from t xs) out ∙ word_kept xs (subst (λ t. Reads Word t xs) out h.1))

module _ (bs inner : List ℕ) (lead : ℕ) (leads : lead_of bs ≡ lead) (is : inner ≡ drop lead bs) (lt : lead < length bs) where
  inner-blanked : drop lead (blanked bs) ≡ blanked inner
  inner-blanked = from-drop lead false bs ∙ ap (λ t. blanked_from t (drop lead bs)) (outside bs inner lead (word_len inner) leads is refl lt) ∙ ap blanked (sym is)

  word-blanked : (n : ℕ) → word_len inner ≡ n → (lead, (take n (drop lead (blanked bs)), drop n (drop lead (blanked bs)))) ≡ blanked_behind (lead, (take n inner, drop n inner))
  word-blanked n len =
      let word = reads bs inner lead n leads is len lt in
      ap (λ l. (lead, (take n l, drop n l))) inner-blanked
      ∙ ap (λ l. (lead, (l, drop n (blanked inner)))) (from-take n false inner ∙ word_kept (take n inner) word)
      ∙ ap (λ l. (lead, (take n inner, l))) (from-drop n false inner ∙ ap (λ t. blanked_from t (drop n inner)) (word_closed (take n inner) word))

-- the word and what follows it, where there is one
abbrev behind_lead : ℕ → List ℕ → ℕ → ℕ × (List ℕ × List ℕ)
behind_lead lead bs n = (lead, (take n (drop lead bs), drop n (drop lead bs)))

word : (bs : List ℕ) → first_word (blanked bs) ≡ option_map blanked_behind (first_word bs)
word bs =
    let lead : ℕ = lead_of bs in
    let n : ℕ = word_len (drop (lead_of bs) bs) in
    let found : List ℕ → ℕ → Option (ℕ × (List ℕ × List ℕ)) = λ xs k. Some (k, (take (word_len (drop k xs)) (drop k xs), drop (word_len (drop k xs)) (drop k xs))) in
    ap (λ v. cond v None (found (blanked bs) (lead_of (blanked bs)))) (blank-alike bs)
    ∙ ap (λ ms. cond (is_blank bs) None (found (blanked bs) (prefix_len (passes Blanks) ms))) (marks-from false bs)
    ∙ ⊎_elim
    (λ is. cond-true _ _ _ is ∙ ap (option_map blanked_behind) (sym (cond-true (is_blank bs) None (found bs lead) is)))
    (λ no.
    let lt : lead_of bs < length bs = omega (arith, eqb-false _ _ no, prefix_len-le-length (passes Blanks) (marks false bs), length-marks false bs) in
    let len : word_len (drop lead (blanked bs)) ≡ n = ap word_len (inner-blanked bs (drop lead bs) lead refl refl lt) ∙ ap (prefix_len (passes Word)) (marks-from false (drop lead bs)) in
    cond-false _ _ _ no
    ∙ ap (λ k. Some (behind_lead lead (blanked bs) k)) len
    ∙ ap Some (word-blanked bs (drop lead bs) lead refl refl lt n refl)
    ∙ ap (option_map blanked_behind) (sym (cond-false (is_blank bs) None (found bs lead) no)))
    (cases_Bool (is_blank bs))

halves-blanked : (o : Option (ℕ × (List ℕ × List ℕ))) → code_and_value (option_map blanked_behind o) ≡ ((code_and_value o).0, blanked (code_and_value o).1)
halves-blanked None = refl
halves-blanked (Some w) = ap (λ l. (w.1.0, l)) (core-blanked Blanks refl w.1.1)

parted : (bs : List ℕ) → split_item (blanked bs) ≡ ((split_item bs).0, blanked (split_item bs).1)
parted bs = ap code_and_value (word bs) ∙ halves-blanked (first_word bs)

pub items_blanked : ItemsBlanked
items_blanked = record { message = message; body = body; word = word; parted = parted }

-- outside comments nothing changes; inside them all is blank
no_colon : (b : ℕ) → (b ≡ 58 → ⊥) → eqb b 58 ≡ false
no_colon b off = ⊎_elim (λ is. absurd (off (eqb-true b 58 is))) (λ f. f) (cases_Bool (eqb b 58))

kept : (s : List ℕ) → NoColon s → (blanked s ≡ s) × (leaves false s ≡ false)
kept [] h = (refl, refl)
kept (b ∷ bs) h =
    let no = no_colon b h.0 in
    let out : after false b ≡ false = cond-false _ _ _ no in
    let more = kept bs h.1 in
    (ap₂ (λ x l. x ∷ l) (cond-false (eqb b 58) 32 b no) (ap (λ t. blanked_from t bs) out ∙ more.0), ap (λ t. leaves t bs) out ∙ more.1)

hidden : (s : List ℕ) → NoColon s → (blanked_from true s ≡ replicate (length s) 32) × (leaves true s ≡ true)
hidden [] h = (refl, refl)
hidden (b ∷ bs) h =
    let still : after true b ≡ true = cond-false _ _ _ (no_colon b h.0) in
    let more = hidden bs h.1 in
    (ap (λ l. 32 ∷ l) (ap (λ t. blanked_from t bs) still ∙ more.0), ap (λ t. leaves t bs) still ∙ more.1)

round : (n : ℕ) (xs : List ℕ) → 32 ∷ (replicate n 32 ++ 32 ∷ xs) ≡ replicate (n + 2) 32 ++ xs
round zero xs = refl
round (suc n) xs = let on : suc (n + 2) ≡ suc n + 2 = omega arith in ap (λ l. 32 ∷ l) (round n xs) ∙ ap (λ k. replicate k 32 ++ xs) on

-- a colon behind a front with none opens a comment
opened : (front rest : List ℕ) → NoColon front → blanked (front ++ 58 ∷ rest) ≡ front ++ 32 ∷ blanked_from true rest
opened front rest h =
    let same = kept front h in
    from-append false front (58 ∷ rest) ∙ ap₂ (λ l t. l ++ blanked_from t (58 ∷ rest)) same.0 same.1

shown_off : (s : Bool) (b : ℕ) → shown s b ≡ 58 → ⊥
shown_off true b e = omega arith
shown_off false b e = ⊎_elim (λ is. omega (arith, cond-true (eqb b 58) 32 b is)) (λ f. eqb-false b 58 f (sym (cond-false (eqb b 58) 32 b f) ∙ e)) (cases_Bool (eqb b 58))

none_left : (s : Bool) (bs : List ℕ) → NoColon (blanked_from s bs)
none_left s [] = tt
none_left s (b ∷ bs) = (shown_off s b, none_left (after s b) bs)

pub comments_blanked : CommentsBlanked
comments_blanked = record {
  kept = λ bs h. (kept bs h).0;
  closed = λ front inner back h g.
      let over = hidden inner g in
      opened front (inner ++ 58 ∷ back) h
      ∙ ap (λ l. front ++ 32 ∷ l) (from-append true inner (58 ∷ back) ∙ ap₂ (λ l t. l ++ blanked_from t (58 ∷ back)) over.0 over.1)
      ∙ ap (λ l. front ++ l) (round (length inner) (blanked back));
  unclosed = λ front inner h g. opened front inner h ∙ ap (λ l. front ++ 32 ∷ l) (hidden inner g).0 ∙ ap (λ k. front ++ replicate k 32) (sym (add-one (length inner)));
  none_left = none_left false;
  as_long = length-from false;
}
