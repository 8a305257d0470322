-- The laws of parameter codes.
use Rattle.std.proofs.Common.{◌≡◌, ℕ, zero, suc, Bool, true, false, cond, ◌&&◌, eqb, leb, List, [], ◌∷◌, ◌++◌, length, get_or, is_some, Some, None, Option, sym, refl, ap, ◌∙◌, arith, length-append}
use Rattle.std.proofs.lemmas.List.{get_or_default, get_or_append_left}
use Rattle.std.proofs.lemmas.Bool.{cond-true, cond-false, and_parts, eqb-true, ne_eqb}
use Rattle.std.proofs.lemmas.Bool.Decides.{nat_tests}
use Rattle.std.proofs.lemmas.Option.{cond_some}
use Rattle.quantity.specs.declared.element.Element.{Element}
use Rattle.quantity.specs.Elements.{element_of}
use Rattle.quantity.specs.Codes.{durations, is_duration, is_type, full_code, unless_z, completed, checked_code, code_of_element}
use Rattle.quantity.specs.CodeLaws.{Full, Itself, Ends}

full_of : (b : Bool) (o : Option Element) (cs full : List ℕ) → cond b (code_of_element o cs) None ≡ Some full → full_code full ≡ true
full_of false o cs full h = cc
full_of true None cs full h = cc
full_of true (Some e) cs full h = let p = cond_some (full_code (completed e cs)) (completed e cs) full h in ap full_code (sym p.1) ∙ p.0

pub full : Full
full cs f h = full_of (leb 2 (length cs) && leb (length cs) 7) (element_of (get_or cs 0 0) (get_or cs 1 0)) cs f h

seven : (cs : List ℕ) → length cs ≡ 7 → get_or cs 0 90 ∷ get_or cs 1 90 ∷ get_or cs 2 90 ∷ get_or cs 3 90 ∷ get_or cs 4 90 ∷ get_or cs 5 90 ∷ get_or cs 6 90 ∷ [] ≡ cs
seven [] l = absurd (omega arith)
seven (a ∷ []) l = absurd (omega arith)
seven (a ∷ b ∷ []) l = absurd (omega arith)
seven (a ∷ b ∷ c ∷ []) l = absurd (omega arith)
seven (a ∷ b ∷ c ∷ d ∷ []) l = absurd (omega arith)
seven (a ∷ b ∷ c ∷ d ∷ e ∷ []) l = absurd (omega arith)
seven (a ∷ b ∷ c ∷ d ∷ e ∷ f ∷ []) l = absurd (omega arith)
seven (a ∷ b ∷ c ∷ d ∷ e ∷ f ∷ g ∷ []) l = refl
seven (a ∷ b ∷ c ∷ d ∷ e ∷ f ∷ g ∷ h ∷ cs) l = absurd (omega arith)

no_z : is_duration 90 ≡ false
unfolding durations
no_z = refl

duration_z : (d : ℕ) → is_duration d ≡ true → d ≡ 90 → ⊥
duration_z d t e = let q : true ≡ false = sym t ∙ ap is_duration e ∙ no_z in cc

type_z : (t : ℕ) → is_type t ≡ true → t ≡ 90 → ⊥
type_z t h e = let q : true ≡ false = sym h ∙ ap is_type e in cc

kept : (e : Element) (cs : List ℕ) → length cs ≡ 7 → (get_or cs 2 0 ≡ 90 → ⊥) → (get_or cs 3 0 ≡ 90 → ⊥) → completed e cs ≡ cs
kept e cs l d t =
    let p = get_or_default cs 2 90 0 (omega arith) in
    let q = get_or_default cs 3 90 0 (omega arith) in
    let u : unless_z e.duration (get_or cs 2 90) ≡ get_or cs 2 90 = cond-false _ _ _ (ne_eqb _ 90 (λ h. d (sym p ∙ h))) in
    let v : unless_z 82 (get_or cs 3 90) ≡ get_or cs 3 90 = cond-false _ _ _ (ne_eqb _ 90 (λ h. t (sym q ∙ h))) in
    ap (λ x. get_or cs 0 90 ∷ get_or cs 1 90 ∷ x ∷ unless_z 82 (get_or cs 3 90) ∷ get_or cs 4 90 ∷ get_or cs 5 90 ∷ get_or cs 6 90 ∷ []) u
    ∙ ap (λ x. get_or cs 0 90 ∷ get_or cs 1 90 ∷ get_or cs 2 90 ∷ x ∷ get_or cs 4 90 ∷ get_or cs 5 90 ∷ get_or cs 6 90 ∷ []) v
    ∙ seven cs l

itself_of : (o : Option Element) (cs : List ℕ) → is_some o ≡ true → length cs ≡ 7 → (get_or cs 2 0 ≡ 90 → ⊥) → (get_or cs 3 0 ≡ 90 → ⊥) → full_code cs ≡ true → code_of_element o cs ≡ Some cs
itself_of None cs s l d t h = cc
itself_of (Some e) cs s l d t h = ap checked_code (kept e cs l d t) ∙ cond-true _ _ _ h

pub itself : Itself
itself cs h =
    let p = and_parts (eqb (length cs) 7) _ h in
    let q = and_parts (is_some (element_of (get_or cs 0 0) (get_or cs 1 0))) _ p.1 in
    let r = and_parts (is_duration (get_or cs 2 0)) _ q.1 in
    let s = and_parts (is_type (get_or cs 3 0)) _ r.1 in
    let l : length cs ≡ 7 = eqb-true _ _ p.0 in
    let b : (leb 2 (length cs) && leb (length cs) 7) ≡ true = grind (arith, nat_tests) in
    cond-true _ _ _ b ∙ itself_of (element_of (get_or cs 0 0) (get_or cs 1 0)) cs q.0 l (duration_z _ r.0) (type_z _ s.0) h

ended : (cs : List ℕ) (k : ℕ) → get_or (cs ++ 90 ∷ []) k 90 ≡ get_or cs k 90
ended [] zero = refl
ended [] (suc k) = refl
ended (c ∷ cs) zero = refl
ended (c ∷ cs) (suc k) = ended cs k

ends_of : (o : Option Element) (cs : List ℕ) → code_of_element o (cs ++ 90 ∷ []) ≡ code_of_element o cs
ends_of None cs = refl
ends_of (Some e) cs = let h : completed e (cs ++ 90 ∷ []) ≡ completed e cs = simp ended in ap checked_code h

pub ends : Ends
ends cs two six =
    let l = length-append cs (90 ∷ []) in
    let b : (leb 2 (length (cs ++ 90 ∷ [])) && leb (length (cs ++ 90 ∷ [])) 7) ≡ true = grind (arith, nat_tests) in
    let d : (leb 2 (length cs) && leb (length cs) 7) ≡ true = grind (arith, nat_tests) in
    let p = get_or_append_left cs (90 ∷ []) 0 0 (omega arith) in
    let q = get_or_append_left cs (90 ∷ []) 0 1 (omega arith) in
    cond-true _ _ _ b ∙ ap (λ x. code_of_element (element_of x (get_or (cs ++ 90 ∷ []) 1 0)) (cs ++ 90 ∷ [])) p ∙ ap (λ x. code_of_element (element_of (get_or cs 0 0) x) (cs ++ 90 ∷ [])) q
    ∙ ends_of (element_of (get_or cs 0 0) (get_or cs 1 0)) cs ∙ sym (cond-true _ _ _ d)
