-- Two tables with the same row_of are one, however it is shown that their fractions are fair.
use Rattle.std.proofs.Common.{◌≡◌, ℕ, true, false, cond, ◌&&◌, ◌==◌, List, [], ◌∷◌, map, Some, None, Option, refl, ap, ◌∙◌}
use Rattle.std.specs.List.{find}
use Rattle.std.specs.Option.{option_map}
use mathlib.Core.Bool.{Bool-set}
use mathlib.Core.HLevel.{is_prop→PathP}
use Rattle.quantity.specs.declared.element.Element.{Element}
use Rattle.quantity.specs.Elements.{elements, element_of, row_of, lookup, row_named}
use Rattle.quantity.specs.Fractions.{fair}

same_row : (e f : Element) → row_of e ≡ row_of f → e ≡ f
same_row e f p = λ i. record {
  first = (p i).0;
  second = (p i).1;
  numerator = (p i).2;
  denominator = (p i).3;
  offset = (p i).4;
  duration = (p i).5;
  ok = is_prop→PathP (λ j. fair (p j).2 (p j).3 (p j).4 ≡ true) (λ j. Bool-set (fair (p j).2 (p j).3 (p j).4) true) e.ok f.ok i;
}

-- the row of two letters is that of their element
row_found : (a b : ℕ) (es : List Element) → find (row_named a b) (map row_of es) ≡ option_map row_of (lookup a b es)
row_found a b [] = refl
row_found a b (e ∷ es) = elim (e.first == a && e.second == b) as (λ t. cond t (Some (row_of e)) (find (row_named a b) (map row_of es)) ≡ option_map row_of (cond t (Some e) (lookup a b es))) [ true ↦ refl | false ↦ row_found a b es ]

module _ (a b : ℕ) where
  abbrev found : Option (ℕ × ℕ × ℕ × ℕ × ℕ × ℕ)
  found = find (row_named a b) (map row_of elements)

  no_row : (o : Option Element) → None ≡ option_map row_of o → None ≡ o
  no_row None p = refl
  no_row (Some e) p = cc

  fair_row : (o : Option Element) (r : ℕ × ℕ × ℕ × ℕ × ℕ × ℕ) → Some r ≡ option_map row_of o → fair r.2 r.3 r.4 ≡ true
  fair_row None r p = cc
  fair_row (Some e) r p = let q : r ≡ row_of e = cc in ap (λ x. fair x.2 x.3 x.4) q ∙ e.ok

  row_element : (o : Option Element) (e : Element) → Some (row_of e) ≡ option_map row_of o → Some e ≡ o
  row_element None e p = cc
  row_element (Some f) e p = let q : row_of e ≡ row_of f = cc in ap Some (same_row e f q)

  pub none_found : None ≡ found → None ≡ element_of a b
  none_found p = no_row (element_of a b) (p ∙ row_found a b elements)

  pub found_fair : (r : ℕ × ℕ × ℕ × ℕ × ℕ × ℕ) → Some r ≡ found → fair r.2 r.3 r.4 ≡ true
  found_fair r p = fair_row (element_of a b) r (p ∙ row_found a b elements)

  pub found_element : (e : Element) → Some (row_of e) ≡ found → Some e ≡ element_of a b
  found_element e p = row_element (element_of a b) e (p ∙ row_found a b elements)
