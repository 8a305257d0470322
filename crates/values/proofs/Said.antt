-- A value is read as what it says.
use Rattle.std.proofs.Common.{◌≡◌, ℕ, zero, suc, ◌+◌, ◌-◌, ◌<◌, true, ◌&&◌, ◌||◌, eqb, List, [], ◌∷◌, ◌++◌, length, get_or, take, Contains, slice_index_or, ℤ, pos, Some, None, Ok, Err, Option, Result, sym, refl, ap, ap₂, ◌∙◌, subst, ⊎_elim, take_all, arith}
use Rattle.std.specs.Str.{bytes_eq}
use Rattle.std.proofs.lemmas.Bool.{cond-true, cond-false, and_parts, or_cases, eqb-true, cases_Bool}
use Rattle.std.proofs.lemmas.Bool.Decides.{nat_tests}
use Rattle.std.proofs.lemmas.List.{take_more}
use Rattle.std.proofs.lemmas.Slice.Eq.{bytes_eq-Decides}
use Rattle.text.specs.Signs.{capital}
use Rattle.quantity.specs.declared.element.Element.{Element}
use Rattle.quantity.specs.declared.units.Units.{Units}
use Rattle.values.specs.declared.reading.ValueFault.{ValueFault}
use Rattle.values.specs.declared.reading.ValueFault.TheVariants.{Malformed}
use Rattle.values.specs.Numbers.{amount_of}
use Rattle.values.specs.Forms.{traced, Says, missing, missing_too, trace, alone, qualified, ReadsWhatIsSaid}
use Rattle.values.specs.Reading.{Stated, last_of, qualifier_of, number_of, value_in, qualified_by, amount_read, is_missing, is_trace, knows_trace, trace_read, read_for, read_of}
use Rattle.values.proofs.Parts.{says_writes}
use Rattle.values.proofs.Again.{read_alone, read_qualified}

-- the letters of the elements that know a trace

letters : (x y a b : ℕ) → x ∷ y ∷ [] ≡ a ∷ b ∷ [] → knows_trace x y ≡ true → knows_trace a b ≡ true
letters x y a b e t = ap₂ knows_trace (ap (λ (l : List ℕ). get_or l 0 0) (sym e)) (ap (λ (l : List ℕ). get_or l 1 0) (sym e)) ∙ t

known_at : (k a b : ℕ) → k < 5 → slice_index_or traced k (a ∷ b ∷ []) ≡ a ∷ b ∷ [] → knows_trace a b ≡ true
known_at zero a b h e = letters 80 80 a b e refl
known_at (suc zero) a b h e = letters 80 67 a b e refl
known_at (suc (suc zero)) a b h e = letters 83 87 a b e refl
known_at (suc (suc (suc zero))) a b h e = letters 83 68 a b e refl
known_at (suc (suc (suc (suc zero)))) a b h e = letters 83 70 a b e refl
known_at (suc (suc (suc (suc (suc k))))) a b h e = absurd (omega arith)

two : (x y a b : ℕ) → eqb a x ≡ true → eqb b y ≡ true → x ∷ y ∷ [] ≡ a ∷ b ∷ []
two x y a b p q = λ i. sym (eqb-true a x p) i ∷ sym (eqb-true b y q) i ∷ []

is_traced : (a b : ℕ) → knows_trace a b ≡ true → Contains traced (a ∷ b ∷ [])
is_traced a b t = ⊎_elim
    (λ p.
    let q = and_parts (eqb a 80) (eqb b 80 || eqb b 67) p in
    ⊎_elim (λ r. (0, omega arith, two 80 80 a b q.0 r)) (λ r. (1, omega arith, two 80 67 a b q.0 r)) (or_cases (eqb b 80) (eqb b 67) q.1))
    (λ p.
    let q = and_parts (eqb a 83) (eqb b 87 || (eqb b 68 || eqb b 70)) p in
    ⊎_elim
    (λ r. (2, omega arith, two 83 87 a b q.0 r))
    (λ r. ⊎_elim (λ s. (3, omega arith, two 83 68 a b q.0 s)) (λ s. (4, omega arith, two 83 70 a b q.0 s)) (or_cases (eqb b 68) (eqb b 70) r))
    (or_cases (eqb b 87) (eqb b 68 || eqb b 70) q.1))
    (or_cases (eqb a 80 && (eqb b 80 || eqb b 67)) (eqb a 83 && (eqb b 87 || (eqb b 68 || eqb b 70))) t)

-- a last capital
some_last : (xs : List ℕ) → capital (last_of xs) ≡ true → 0 < length xs
some_last [] h = absurd (grind (arith, nat_tests))
some_last (x ∷ xs) h = omega arith

less_last : (xs : List ℕ) → 0 < length xs → xs ≡ take (length xs - 1) xs ++ last_of xs ∷ []
less_last xs some =
    let up : length xs ≡ length xs - 1 + 1 = omega arith in
    sym (take_all (length xs) xs (omega arith)) ∙ ap (λ n. take n xs) up ∙ take_more xs (length xs - 1) 0 (omega arith)

module _ (e : Element) (u : Units) where
  said : {text : List ℕ} {r : Result Stated ValueFault} → Says e u text r → read_for e u text ≡ r
  unfolding read_for
  said missing = refl
  said missing_too = refl
  said (trace c) = cond-true _ _ _ (known_at c.0 e.first e.second c.1 c.2)
  said (alone {text} {z} w) = read_alone e u text z w
  said (qualified {text} {z} q w big) = read_qualified e u text z w q big

  no_amount : (q : ℕ) (o : Option ℤ) → ((z : ℤ) → o ≡ Some z → ⊥) → amount_read e u q o ≡ Err Malformed
  no_amount q None h = refl
  no_amount q (Some z) h = absurd (h z refl)

  module _ (text : List ℕ) (none : (r : Result Stated ValueFault) → Says e u text r → ⊥) where
    by_amount : amount_read e u (qualifier_of text) (amount_of (number_of text)) ≡ Err Malformed
    by_amount = ⊎_elim
        (λ big.
        let xs : List ℕ = take (length text - 1) text in
        let q : ℕ = last_of text in
        let split = less_last text (some_last text big) in
        ap (λ k. amount_read e u k (amount_of (number_of text))) (cond-true _ _ _ big) ∙ ap (λ l. amount_read e u q (amount_of l)) (cond-true _ _ _ big)
        ∙ no_amount q (amount_of xs) (λ z h. none _ (subst (λ l. Says e u l (qualified_by q (value_in e u z))) (sym split) (qualified q (says_writes xs z h) big))))
        (λ low.
        ap (λ k. amount_read e u k (amount_of (number_of text))) (cond-false _ _ _ low) ∙ ap (λ l. amount_read e u 90 (amount_of l)) (cond-false _ _ _ low)
        ∙ no_amount 90 (amount_of text) (λ z h. none _ (alone (says_writes text z h))))
        (cases_Bool (capital (last_of text)))

    not_missing : is_missing text ≡ true → ⊥
    not_missing t = ⊎_elim
        (λ m. none _ (subst (λ l. Says e u l (Ok (None, 90))) (sym ((bytes_eq-Decides text (77 ∷ [])).0 m)) missing))
        (λ m. none _ (subst (λ l. Says e u l (Ok (None, 90))) (sym ((bytes_eq-Decides text (77 ∷ 77 ∷ [])).0 m)) missing_too))
        (or_cases (bytes_eq text (77 ∷ [])) (bytes_eq text (77 ∷ 77 ∷ [])) t)

    no_trace : is_trace text ≡ true → trace_read e ≡ Err Malformed
    no_trace t = ⊎_elim
        (λ k. absurd (none _ (subst (λ l. Says e u l (Ok (Some (pos 10), 90))) (sym ((bytes_eq-Decides text (84 ∷ [])).0 t)) (trace (is_traced e.first e.second k)))))
        (λ k. cond-false _ _ _ k)
        (cases_Bool (knows_trace e.first e.second))

    unsaid : read_for e u text ≡ Err Malformed
    unfolding read_for
    unsaid = ⊎_elim
        (λ m. absurd (not_missing m))
        (λ m. cond-false _ _ _ m ∙ ⊎_elim (λ t. cond-true _ _ _ t ∙ no_trace t) (λ t. cond-false _ _ _ t ∙ by_amount) (cases_Bool (is_trace text)))
        (cases_Bool (is_missing text))

pub reads_what_is_said : ReadsWhatIsSaid
reads_what_is_said code e u text is = record {
  said = λ r s. ap (λ o. read_of o u text) is ∙ said e u s;
  unsaid = λ none. ap (λ o. read_of o u text) is ∙ unsaid e u text none;
}
