-- The first item of a header that is not empty. Assumes nothing.
use Rattle.std.proofs.Common.{◌≡◌, Bool, true, false, not, eqb, List, [], ◌∷◌, length, Some, None, Option, IfSome, Bor, sym, ap, ◌∙◌, arith}
use denote.Param.Members.{Mut}
use Rattle.items.specs.declared.cut.Item.{Item}
use Rattle.items.specs.Steps.{Fits}
use Rattle.merging.specs.declared.heading.Header.{Header}
use Rattle.merging.specs.Headers.{FittingStep, header_ahead}
use Rattle.merging.specs.Merging.{FilledStep, filled}
use Rattle.std.proofs.lemmas.Bool.{cond-false, cond-true, eqb-false}
use Rattle.std.specs.Fn.{CalledAt}
use Rattle.std.specs.Iterator.{Yields, YieldsThen}
use Rattle.std.specs.List.{FoldsTo}

abbrev pub gives : Header → Option Item → Header → Type 0
gives = FittingStep

flip : (b v : Bool) → b ≡ not v → v ≡ not b
flip b true e = ap not (sym e)
flip b false e = ap not (sym e)

-- a call of the test says whether an item is not empty
module _ {F : Type 0} (g : Mut F (Bor Item × Unit {0}) Bool) where
  abbrev pub Tests : Type 0
  Tests = (p : F) (x : Item) (b : Bool) (q : F) → CalledAt g p x b q → b ≡ not (eqb (length x.part.now) 0)

  passed : Tests → (s t : Header) (xs : List Item) (p q : F) → Yields gives s xs t → FoldsTo (λ i x j. CalledAt g i x false j) p xs q → filled (header_ahead s) ≡ filled (header_ahead t)
  passed told s t [] p q y f = ap (λ k. filled (header_ahead k)) y
  passed told s t (x ∷ xs) p q y f = ap filled y.1.0 ∙ cond-true _ _ _ (flip false (eqb (length x.part.now) 0) (told p x false f.0 f.1)) ∙ passed told y.0 t xs f.0 q y.2 f.2

  pub found : (s : Header) (r : Option Item) (u : Header) (xs : List Item) (p q : F) → YieldsThen gives s xs r u → FoldsTo (λ i x j. CalledAt g i x false j) p xs q → IfSome r (λ x. (h : F) × CalledAt g q x true h) → Tests → FilledStep s r u
  found s None u xs p q y f k told = (passed told s y.0 xs p q y.1 f ∙ ap filled y.2.0.0, ap filled y.2.0.1)
  found s (Some x) u xs p q y f k told =
      let some = flip true (eqb (length x.part.now) 0) (told q x true k.0 k.1) in
      let more : length x.part.now ≡ 0 → ⊥ = eqb-false _ 0 some in
      (passed told s y.0 xs p q y.1 f ∙ ap filled y.2.0 ∙ cond-false _ _ _ some, omega arith)

-- what is found fits, as all that the header gives
pub found_fits : (r : Option Item) (s u : Header) (xs : List Item) → YieldsThen gives s xs r u → IfSome r Fits
found_fits r s u xs y = y.2.1
