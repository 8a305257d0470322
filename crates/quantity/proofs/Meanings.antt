-- What the letters of an element mean alone, and what each sign of a code becomes.
use Rattle.std.proofs.Common.{◌≡◌, ℕ, zero, suc, ◌<◌, Bool, true, false, cond, ◌&&◌, leb, List, [], ◌∷◌, length, get_or, is_some, Some, None, Option, sym, refl, ap, ◌∙◌, subst, arith}
use Rattle.std.specs.List.{find, list_all}
use Rattle.std.proofs.lemmas.Bool.{cond-true, cond-false, and_parts, eq-eqb, ne_eqb}
use Rattle.std.proofs.lemmas.Option.{none-some, same_Some, cond_some}
use Rattle.quantity.specs.declared.element.Element.{Element}
use Rattle.quantity.specs.Elements.{elements, element_of}
use Rattle.quantity.specs.Codes.{durations, is_duration, full_code, unless_z, completed, code_of_element}
use Rattle.quantity.specs.CodeLaws.{Alone, Becomes, Completes, Means}

-- what is found in a list passes what all of it passes
found_passes : (p t : Element → Bool) (es : List Element) (e : Element) → list_all t es ≡ true → find p es ≡ Some e → t e ≡ true
found_passes p t [] e all h = absurd (none-some e h)
found_passes p t (x ∷ xs) e all h =
    let parts = and_parts (t x) (list_all t xs) all in
    found_by (p x) x parts.0 h (found_passes p t xs e parts.1)
  where
    found_by : (b : Bool) (x : Element) → t x ≡ true → cond b (Some x) (find p xs) ≡ Some e → (find p xs ≡ Some e → t e ≡ true) → t e ≡ true
    found_by true x is h rest = subst (λ y. t y ≡ true) (same_Some x e h) is
    found_by false x is h rest = rest h

durations_known : list_all (λ e. is_duration e.duration) elements ≡ true
unfolding elements durations
durations_known = refl

pub alone : Alone
alone a b e h =
    let d : is_duration e.duration ≡ true = found_passes _ (λ x. is_duration x.duration) elements e durations_known h in
    let z : unless_z e.duration 90 ≡ e.duration = refl in
    let full : full_code (a ∷ b ∷ e.duration ∷ 82 ∷ 90 ∷ 90 ∷ 90 ∷ []) ≡ true = ap (λ o. is_some o && (is_duration e.duration && true)) h ∙ ap (λ t. t && true) d in
    ap (λ o. code_of_element o (a ∷ b ∷ [])) h ∙ cond-true _ _ _ full

becomes : (meant c : ℕ) → Becomes meant c (unless_z meant c)
becomes meant c = record { is_z = λ e. cond-true _ _ _ (eq-eqb c 90 e); stays = λ ne. cond-false _ _ _ (ne_eqb c 90 ne) }

other_signs : (e : Element) (cs : List ℕ) (place : ℕ) → place < 7 → (place ≡ 2 → ⊥) → (place ≡ 3 → ⊥) → get_or (completed e cs) place 0 ≡ get_or cs place 90
other_signs e cs zero h two three = refl
other_signs e cs (suc zero) h two three = refl
other_signs e cs (suc (suc zero)) h two three = absurd (two refl)
other_signs e cs (suc (suc (suc zero))) h two three = absurd (three refl)
other_signs e cs (suc (suc (suc (suc zero)))) h two three = refl
other_signs e cs (suc (suc (suc (suc (suc zero))))) h two three = refl
other_signs e cs (suc (suc (suc (suc (suc (suc zero)))))) h two three = refl
other_signs e cs (suc (suc (suc (suc (suc (suc (suc k))))))) h two three = absurd (omega arith)

completes : (e : Element) (cs : List ℕ) → Completes e cs (completed e cs)
completes e cs = record { seven = refl; duration = becomes e.duration (get_or cs 2 90); type_letter = becomes 82 (get_or cs 3 90); others = other_signs e cs }

completed_is : (b : Bool) (o : Option Element) (cs full : List ℕ) (e : Element) → o ≡ Some e → cond b (code_of_element o cs) None ≡ Some full → completed e cs ≡ full
completed_is false o cs full e is h = absurd (none-some full h)
completed_is true None cs full e is h = absurd (none-some e is)
completed_is true (Some x) cs full e is h =
    ap (λ y. completed y cs) (sym (same_Some x e is)) ∙ (cond_some (full_code (completed x cs)) (completed x cs) full h).1

pub means : Means
means cs full e is h =
    subst (Completes e cs) (completed_is (leb 2 (length cs) && leb (length cs) 7) (element_of (get_or cs 0 0) (get_or cs 1 0)) cs full e is h) (completes e cs)
