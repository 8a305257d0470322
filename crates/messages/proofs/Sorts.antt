-- An item is empty, a D item or a plain one.
use Rattle.std.proofs.Common.{◌≡◌, ℕ, Bool, true, false, cond, not, ◌||◌, List, [], ◌∷◌, length, refl, eqb-true, arith}
use Rattle.std.proofs.lemmas.Bool.{true≢false}
use Rattle.merging.specs.Merging.{is_d}
use Rattle.messages.specs.Turns.{Turned, is_empty}

pub empty_no_d : (item : List ℕ) → is_empty item ≡ true → is_d item ≡ false
empty_no_d [] h = refl
empty_no_d (c ∷ cs) h = let none = eqb-true (length (c ∷ cs)) 0 h in absurd (omega arith)

-- what holds of each sort holds of an item, where it is asked first whether the item is empty
pub by_empty : (X : Bool → Bool → Turned → Type 0) (e d : Bool) (a b c : Turned)
    → (e ≡ true → d ≡ false) → X false false a → X true false b → X false true c → X d (not (e || d)) (cond e a (cond d b c))
by_empty X true true a b c n ha hb hc = absurd (true≢false (n refl))
by_empty X true false a b c n ha hb hc = ha
by_empty X false true a b c n ha hb hc = hb
by_empty X false false a b c n ha hb hc = hc

-- and where it is asked first whether it is a D item
pub by_d : (X : Bool → Bool → Turned → Type 0) (e d : Bool) (a b c : Turned)
    → (e ≡ true → d ≡ false) → X false false a → X true false b → X false true c → X d (not (e || d)) (cond d b (cond e a c))
by_d X true true a b c n ha hb hc = absurd (true≢false (n refl))
by_d X true false a b c n ha hb hc = ha
by_d X false true a b c n ha hb hc = hb
by_d X false false a b c n ha hb hc = hc
