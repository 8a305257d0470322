-- What is known where an Option holds something. Assumes nothing.
use Rattle.std.proofs.Common.{◌≡◌, ℕ, Bool, true, false, cond, ◌==◌, eqb, Some, None, Option, refl, sym, ◌∙◌, subst, ⊎_elim, arith}
use Rattle.std.proofs.lemmas.Bool.{eqb-true, cond-true, cond-false, cases_Bool}
use Rattle.std.specs.Option.{option_map}
use Rattle.std.proofs.lemmas.Option.{same_Some}
use Rattle.ditems.specs.Groups.{when}

pub none-some : {A : Type 0} (y : A) → ◌≡◌ {A = Option A} None (Some y) → ⊥
none-some y e = let z : ◌≡◌ {A = ℕ} 0 1 = cc in omega arith

pub mapped_some : {A B : Type 0} (f : A → B) (o : Option A) (y : B) → option_map f o ≡ Some y → (x : A) × (o ≡ Some x) × (f x ≡ y)
mapped_some f None y e = absurd (none-some y e)
mapped_some f (Some x) y e = (x, refl, same_Some (f x) y e)

pub when-some : {A : Type 0} (b : Bool) (x y : A) → when b x ≡ Some y → (b ≡ true) × (x ≡ y)
when-some true x y e = (refl, same_Some x y e)
when-some false x y e = absurd (none-some y e)

-- a value found by its number, or behind it
pub one_of : {A : Type 0} (P : A → Type 0) (b k : ℕ) (v u : A) (o : Option A) → (b ≡ k → P v) → (o ≡ Some u → P u) → cond (b == k) (Some v) o ≡ Some u → P u
one_of P b k v u o here more e =
    ⊎_elim
    (λ t. subst P (same_Some v u (sym (cond-true (eqb b k) (Some v) o t) ∙ e)) (here (eqb-true b k t)))
    (λ f. more (sym (cond-false (eqb b k) (Some v) o f) ∙ e))
    (cases_Bool (eqb b k))
