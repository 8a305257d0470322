-- The first of the nearest days of a list.
use Rattle.std.proofs.Common.{◌≡◌, ℕ, cond, leb, List, [], ◌∷◌, Some, None, Option, Bor, map, sym, refl, ap, ◌∙◌, subst, arith}
use Rattle.std.proofs.lemmas.Bool.Decides.{nat_tests}
use Rattle.std.specs.Fn.{CalledAt}
use denote.Param.Members.{Mut}
use Rattle.std.specs.Iterator.{Drains, DrainsIf, KeyTurn, PicksMinByKey}
use Rattle.std.specs.List.{FoldsTo, cons_option}
use Rattle.std.specs.Ordering.{min_by_ordering, nat_cmp}
use Rattle.std.specs.declared.cmp.Ordering.{Ordering}
use Rattle.std.specs.declared.cmp.Ordering.TheVariants.{Less, Equal, Greater}
use Rattle.std.proofs.lemmas.Iterator.{YieldsList, items_from_drains}
use Rattle.calendar.specs.declared.date.Date.{Date}
use Rattle.calendar.specs.Dates.{number}
use Rattle.calendar.specs.Messages.{apart, nearer}

-- the first of x and the others that is nearest to a day's number
abbrev pub best : ℕ → Date → List Date → Date
best n x [] = x
best n x (y ∷ ys) = best n (cond (leb (apart n (number x)) (apart n (number y))) x y) ys

abbrev pub first_best : ℕ → List Date → Option Date
first_best n [] = None
first_best n (x ∷ xs) = Some (best n x xs)

picks : (a b : ℕ) (x y : Date) (o : Ordering) → nat_cmp a b ≡ o → min_by_ordering o x y ≡ cond (leb a b) x y
picks a b x y Less e = grind (arith, nat_tests)
picks a b x y Equal e = grind (arith, nat_tests)
picks a b x y Greater e = grind (arith, nat_tests)

pub three : (n : ℕ) (a b e : Option Date) → first_best n (cons_option a (cons_option b (cons_option e []))) ≡ nearer n a (nearer n b e)
unfolding nearer
three n None None None = refl
three n None None (Some e) = refl
three n None (Some b) None = refl
three n None (Some b) (Some e) = refl
three n (Some a) None None = refl
three n (Some a) None (Some e) = refl
three n (Some a) (Some b) None = refl
three n (Some a) (Some b) (Some e) = grind (arith, nat_tests)

keyed : (n k l : ℕ) (x z : Date) (o : Ordering) → k ≡ apart n (number x) → l ≡ apart n (number z)
    → min_by_ordering o k l ≡ apart n (number (min_by_ordering o x z))
keyed n k l x z Less ek el = ek
keyed n k l x z Equal ek el = ek
keyed n k l x z Greater ek el = el

drained : {S A : Type 0} (steps : S → Option A → S → Type 0) (s : S) (xs : List A) → Drains steps s xs → DrainsIf steps (Unit {0}) s xs
drained steps s xs (u, (t, yields, last)) = (t, yields, λ _. (u, last))

all_of : {S : Type 0} (steps : S → Option Date → S → Type 0) (s : S) (xs cs : List Date) → Drains steps s xs → YieldsList steps (λ (x : Date). x) s cs → xs ≡ cs
all_of steps s xs cs drains yields = sym (same_list xs) ∙ items_from_drains xs (drained steps s xs drains) yields
  where
    same_list : (ys : List Date) → map (λ (y : Date). y) ys ≡ ys
    same_list [] = refl
    same_list (y ∷ ys) = ap (λ l. y ∷ l) (same_list ys)

module _ {F : Type 0} (g : Mut F (Bor Date × Unit {0}) ℕ) (f : F) (n : ℕ) (says : (x : Date) (k : ℕ) (q : F) → CalledAt g f x k q → (q ≡ f) × (k ≡ apart n (number x))) where
  folds : (xs : List Date) (x y : Date) (p : F) (k : ℕ) (q : F × ℕ) → p ≡ f → k ≡ apart n (number x)
      → FoldsTo {P = (F × ℕ) × Date} (KeyTurn min_by_ordering min_by_ordering g nat_cmp) ((p, k), x) xs (q, y) → y ≡ best n x xs
  folds [] x y p k q ep ek is = sym (ap (λ (s : (F × ℕ) × Date). s.1) is)
  folds (z ∷ zs) x y p k q ep ek (j, (l, o, called, order, key, item), rest) =
      let said = says z l j.0.0 (subst (λ v. CalledAt g v z l j.0.0) ep called) in
      let kept : j.1 ≡ cond (leb (apart n (number x)) (apart n (number z))) x z =
      item ∙ picks k l x z o order ∙ ap (λ v. cond (leb v l) x z) ek ∙ ap (λ v. cond (leb (apart n (number x)) v) x z) said.1
      in
      let its : j.0.1 ≡ apart n (number j.1) = key ∙ keyed n k l x z o ek said.1 ∙ sym (ap (λ (d : Date). apart n (number d)) item) in
      folds zs j.1 y j.0.0 j.0.1 q said.0 its rest ∙ ap (λ (d : Date). best n d zs) kept

  pub picked : {S : Type 0} (steps : S → Option Date → S → Type 0) (s : S) (cs : List Date) (o : Option Date)
      → PicksMinByKey steps g nat_cmp s f o → YieldsList steps (λ (x : Date). x) s cs → o ≡ first_best n cs
  picked steps s cs None none yields = ap (first_best n) (all_of steps s [] cs none yields)
  picked steps s cs (Some y) (x, xs, k, p, q, drains, called, rest) yields =
      let said = says x k p called in
      ap (λ (d : Date). Some d) (folds xs x y p k q said.0 said.1 rest) ∙ ap (first_best n) (all_of steps s (x ∷ xs) cs drains yields)
