-- One group more. Assumes nothing.
use Rattle.std.proofs.Common.{◌≡◌, ℕ, List, [], ◌∷◌, ◌++◌, length, get_or, Some, Option, sym, ap, ◌∙◌, arith}
use Rattle.text.specs.Signs.{pair_of}
use Rattle.ditems.specs.declared.groups.Groups.{Groups}
use Rattle.ditems.specs.declared.groups.Group.{Group}
use Rattle.calendar.specs.Ways.{and_then}
use Rattle.ditems.specs.Groups.{set_from, with_group, smaller}

-- a pair that comes off the front
pub pair_off : (xs pair rest : List ℕ) → xs ≡ pair ++ rest → length pair ≡ 2 → xs ≡ get_or pair 0 0 ∷ get_or pair 1 0 ∷ rest
pair_off xs [] rest e two = absurd (omega arith)
pair_off xs (a ∷ []) rest e two = absurd (omega arith)
pair_off xs (a ∷ b ∷ []) rest e two = e
pair_off xs (a ∷ b ∷ c ∷ more) rest e two = absurd (omega arith)

pub set_one : (next after : Option Group) (g set : Groups) (group : Group) (a b n : ℕ) (rest : List ℕ)
    → Some n ≡ pair_of a b → next ≡ Some group → Some set ≡ with_group g group n → after ≡ smaller group
    → set_from next g (a ∷ b ∷ rest) ≡ set_from after set rest
set_one next after g set group a b n rest en eg es ea =
    ap (λ (p : Option ℕ). and_then p (λ m. and_then next (λ q. and_then (with_group g q m) (λ s. set_from (smaller q) s rest)))) (sym en)
    ∙ ap (λ (p : Option Group). and_then p (λ q. and_then (with_group g q n) (λ s. set_from (smaller q) s rest))) eg
    ∙ ap (λ (p : Option Groups). and_then p (λ s. set_from (smaller group) s rest)) (sym es)
    ∙ ap (λ (p : Option Group). set_from p set rest) (sym ea)
