-- What a line that is taken off a text leaves of its cases.
use Rattle.std.proofs.Common.{◌≡◌, ℕ, ◌+◌, ◌-◌, ◌<◌, ◌≤◌, List, [], ◌∷◌, ◌++◌, Bool, cond, true, false, true≢false, is_some, count_by, encode_utf8, length, get_or, take, drop, eqb, All, Some, None, Option, inl, inr, ⊎_elim, sym, refl, ap, ◌∙◌, subst, arith, length-drop, take-append-drop, take_all, eq-eqb, ne_eqb, eqb-true}
use Rattle.std.specs.List.{slice_split}
use Rattle.std.specs.Str.Lines.{IsFirstLine, StripsCarriageReturn, lines, lines_of_parts, strip_carriage_return}
use Rattle.std.proofs.lemmas.Bool.{cases_lt}
use Rattle.std.proofs.lemmas.Grind.{common_steps}
use Rattle.std.proofs.lemmas.List.{nil_from_length}
use Rattle.std.proofs.lemmas.List.Elements.{All-from_get_or}
use Rattle.std.proofs.lemmas.List.Sums.{sum_by-cons}
use Rattle.std.proofs.lemmas.List.Splits.{slice_split_none, slice_split_at, length-slice_split}
use Rattle.std.proofs.lemmas.Str.{encode_ascii}
use Rattle.std.proofs.lemmas.Str.Pattern.{NoCharPasses-char}
use Rattle.cases.specs.Lists.{begins_case, count_of_cases, with_begun}

stripped : (l x : List ℕ) → StripsCarriageReturn l x → strip_carriage_return l ≡ x
stripped [] x (inl h) = sym h.0
stripped (b ∷ l) x (inl h) = ap (λ t. cond t (take (length (b ∷ l) - 1) (b ∷ l)) (b ∷ l)) (ne_eqb _ 13 (h.1 (omega arith))) ∙ sym h.0
stripped l x (inr e) =
    let last : get_or l (length l - 1) 0 ≡ 13 = grind (arith, common_steps) in
    let front : take (length l - 1) l ≡ x = grind (arith, common_steps) in
    ap (λ t. cond t (take (length l - 1) l) l) (eq-eqb _ 13 last) ∙ front

parts_taken : (x : List ℕ) (parts : List (List ℕ)) → 0 < length parts → lines_of_parts (x ∷ parts) ≡ strip_carriage_return x ∷ lines_of_parts parts
parts_taken x [] l = absurd (omega arith)
parts_taken x (y ∷ more) l = refl

-- the first line is that of the lines
taken : (w x rest : List ℕ) → 0 < length w → IsFirstLine w x rest → lines w ≡ x ∷ lines rest
taken w x rest some h =
    let n : ℕ = h.0 in
    let p = λ (b : ℕ). eqb b 10 in
    let front : All (λ b. eqb b 10 ≡ false) (take n w) = All-from_get_or (λ b. eqb b 10 ≡ false) (take n w) 0 (λ i l. ne_eqb _ 10 (NoCharPasses-char 10 (take n w) i h.1 (omega arith) l)) in
    ⊎_elim
    (λ l. let o = h.2 (omega (arith, length-drop n w)) in
    let after : drop n w ≡ 10 ∷ rest = o.2 ∙ ap (λ d. encode_utf8 d ++ rest) (eqb-true o.0 10 o.1) ∙ ap (λ v. v ++ rest) (encode_ascii 10 (omega arith)) in
    ap lines (sym (take-append-drop n w) ∙ ap (λ v. take n w ++ v) after) ∙ ap lines_of_parts (slice_split_at p (take n w) 10 rest front refl)
    ∙ parts_taken (take n w) (slice_split p rest) (omega (arith, length-slice_split p rest)) ∙ ap (λ v. v ∷ lines rest) (stripped (take n w) x (h.5 l)))
    (λ l. let fits : n + length rest ≤ length w = h.3 in
    ap lines_of_parts (slice_split_none p w (subst (All (λ b. eqb b 10 ≡ false)) (take_all n w l) front)) ∙ ap (λ t. cond t [] (w ∷ [])) (ne_eqb (length w) 0 (λ z. omega arith))
    ∙ (λ i. sym (h.4 (omega arith)) i ∷ lines (sym (nil_from_length rest (omega arith)) i)))
    (cases_lt n (length w))

-- a line more counts as one case, or as none
count_taken : (w x rest : List ℕ) → 0 < length w → IsFirstLine w x rest → count_of_cases w ≡ cond (begins_case x) 1 0 + count_of_cases rest
count_taken w x rest some first = ap (count_by begins_case) (taken w x rest some first) ∙ sum_by-cons (λ l. cond (begins_case l) 1 0) x (lines rest)

pub fewer_lines : (w x rest : List ℕ) → 0 < length w → IsFirstLine w x rest → length (lines rest) < length (lines w)
fewer_lines w x rest some first = omega (arith, ap length (taken w x rest some first))

pub with_one : {A : Type 0} (o : Option A) (n : ℕ) → is_some o ≡ true → with_begun o n ≡ n + 1
with_one None n h = absurd (true≢false (sym h))
with_one (Some head) n h = refl

pub one_taken : (b : Bool) (w x rest : List ℕ) → 0 < length w → IsFirstLine w x rest → b ≡ begins_case x → b ≡ true → count_of_cases w ≡ count_of_cases rest + 1
one_taken b w x rest some first says is = omega (arith, count_taken w x rest some first ∙ ap (λ c. cond c 1 0 + count_of_cases rest) (sym says ∙ is))

pub none_taken : (b : Bool) (w x rest : List ℕ) → 0 < length w → IsFirstLine w x rest → b ≡ begins_case x → b ≡ false → count_of_cases w ≡ count_of_cases rest
none_taken b w x rest some first says is = omega (arith, count_taken w x rest some first ∙ ap (λ c. cond c 1 0 + count_of_cases rest) (sym says ∙ is))
