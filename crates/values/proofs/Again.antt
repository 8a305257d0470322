-- An amount is read with its qualifier and without, and so what was written is read again.
use Rattle.std.proofs.Common.{◌≡◌, ℕ, ◌-◌, ◌<◌, true, false, ◌&&◌, ◌||◌, eqb, List, [], ◌∷◌, ◌++◌, length, get_or, take, ℤ, Some, None, Ok, Option, refl, ap, ◌∙◌, subst, append-nil, arith, length-append}
use Rattle.std.specs.List.{AllByRecursion}
use Rattle.std.specs.Str.{bytes_eq}
use Rattle.std.proofs.lemmas.List.{get_or_at, take_at}
use Rattle.std.proofs.ByRecursion.{All-get_or}
use Rattle.std.proofs.lemmas.Bool.{cond-true, cond-false, ne_eqb}
use Rattle.std.proofs.lemmas.Bool.Decides.{nat_tests}
use Rattle.text.specs.Signs.{capital}
use Rattle.quantity.specs.declared.element.Element.{Element}
use Rattle.quantity.specs.declared.units.Units.{Units}
use Rattle.quantity.specs.declared.units.Units.TheVariants.{English}
use Rattle.quantity.specs.Values.{stands_for}
use Rattle.values.specs.Numbers.{amount_of}
use Rattle.values.specs.Parts.{Writes}
use Rattle.values.specs.Reading.{last_of, qualifier_of, number_of, value_in, qualified_by, amount_read, read_for}
use Rattle.values.specs.Writing.{figure}
use Rattle.values.specs.Laws.{Held, ReadsBack, ReadsAlone}
use Rattle.values.proofs.Parts.{Mark, marks_written, some_written, writes_says}
use Rattle.values.proofs.Back.{figure_writes, trimmed, small, known}

front : (cs ys : List ℕ) → AllByRecursion Mark cs → 0 < length cs → Mark (get_or (cs ++ ys) 0 0)
front [] ys h some = absurd (omega arith)
front (c ∷ cs) ys h some = h.0

-- neither M, MM nor T
as_amount : (e : Element) (u : Units) (cs : List ℕ) → Mark (get_or cs 0 0) → read_for e u cs ≡ amount_read e u (qualifier_of cs) (amount_of (number_of cs))
unfolding read_for
as_amount e u [] h = absurd (omega arith)
as_amount e u (c ∷ cs) h =
    let m : eqb c 77 ≡ false = ne_eqb c 77 (λ t. omega arith) in
    let t : eqb c 84 ≡ false = ne_eqb c 84 (λ t. omega arith) in
    cond-false _ _ _ (ap (λ b. (b && bytes_eq cs []) || (b && bytes_eq cs (77 ∷ []))) m) ∙ cond-false _ _ _ (ap (λ b. b && bytes_eq cs []) t)

value_back : (e : Element) (v : Option ℤ) → Held v → value_in e English (stands_for v) ≡ Ok v
value_back e None h = refl
value_back e (Some z) h = cond-false _ _ _ (known z h) ∙ cond-false _ _ _ (known z h) ∙ cond-true _ _ _ h

module _ (xs : List ℕ) (q : ℕ) (big : capital q ≡ true) where
  at_end : length (xs ++ q ∷ []) - 1 ≡ length xs
  at_end = let l = length-append xs (q ∷ []) in omega arith

  last_is : last_of (xs ++ q ∷ []) ≡ q
  last_is = ap (λ k. get_or (xs ++ q ∷ []) k 0) at_end ∙ get_or_at xs q [] 0 (length xs) refl

  capital_last : capital (last_of (xs ++ q ∷ [])) ≡ true
  capital_last = ap capital last_is ∙ big

  pub qualifier_behind : qualifier_of (xs ++ q ∷ []) ≡ q
  qualifier_behind = cond-true _ _ _ capital_last ∙ last_is

  pub number_before : number_of (xs ++ q ∷ []) ≡ xs
  number_before = cond-true _ _ _ capital_last ∙ ap (λ k. take k (xs ++ q ∷ [])) at_end ∙ take_at xs (q ∷ []) (length xs) refl

no_capital : (xs : List ℕ) → AllByRecursion Mark xs → 0 < length xs → capital (last_of xs) ≡ false
no_capital xs h some =
    let m : Mark (last_of xs) = All-get_or Mark xs (length xs - 1) 0 (omega arith) h in
    grind (arith, nat_tests)

module _ (e : Element) (u : Units) (text : List ℕ) (z : ℤ) (w : Writes text z) where
  pub read_qualified : (q : ℕ) → capital q ≡ true → read_for e u (text ++ q ∷ []) ≡ qualified_by q (value_in e u z)
  read_qualified q big =
      as_amount e u (text ++ q ∷ []) (front text (q ∷ []) (marks_written text z w) (some_written text z w))
      ∙ ap (λ k. amount_read e u k (amount_of (number_of (text ++ q ∷ [])))) (qualifier_behind text q big) ∙ ap (λ l. amount_read e u q (amount_of l)) (number_before text q big)
      ∙ ap (amount_read e u q) (writes_says text z w)

  pub read_alone : read_for e u text ≡ qualified_by 90 (value_in e u z)
  read_alone =
      let marks = marks_written text z w in
      let some = some_written text z w in
      let low = no_capital text marks some in
      as_amount e u text (subst (λ l. Mark (get_or l 0 0)) (append-nil text) (front text [] marks some))
      ∙ ap (λ k. amount_read e u k (amount_of (number_of text))) (cond-false _ _ _ low) ∙ ap (λ l. amount_read e u 90 (amount_of l)) (cond-false _ _ _ low)
      ∙ ap (amount_read e u 90) (writes_says text z w)

pub reads_back : ReadsBack
reads_back e v q h big =
    let z : ℤ = stands_for v in
    ap (λ l. read_for e English (l ++ q ∷ [])) (trimmed v) ∙ read_qualified e English (figure z) z (figure_writes z (small v h)) q big ∙ ap (qualified_by q) (value_back e v h)

pub reads_alone : ReadsAlone
reads_alone e v h =
    let z : ℤ = stands_for v in
    ap (read_for e English) (trimmed v) ∙ read_alone e English (figure z) z (figure_writes z (small v h)) ∙ ap (qualified_by 90) (value_back e v h)
