-- Tests one after the other refuse by the lowest that fails.
use Rattle.std.proofs.Common.{◌≡◌, ℕ, ◌≤◌, List, Some, None, Ok, Err, Option, Result, refl, ap, subst, arith}
use Rattle.std.specs.Option.{ok_or}
use Rattle.calendar.specs.declared.date.Date.{Date}
use Rattle.record.specs.Entries.{Entry}
use Rattle.refusals.specs.declared.ItemRefusal.{ItemRefusal}
use Rattle.refusals.specs.declared.ItemRefusal.TheVariants.{DItem, Code, NoCodeOrInterval, NoDuration, Value, TooLarge, NoTime}
use Rattle.values.specs.Reading.{Stated}
use Rattle.values.specs.declared.reading.ValueFault.{ValueFault}
use Rattle.values.specs.declared.reading.ValueFault.TheVariants as fault
use Rattle.messages.specs.Refusing.{number}
use Rattle.messages.specs.Turns.{item_refusal}
use Rattle.messages.specs.Ways.{then_ok}

-- of the refusals of which P says that they apply, t is refused by the lowest, and by none where none applies
pub record First {A : Type 0} (P : ItemRefusal → Type 0) (t : Result A ItemRefusal) : Type 0 where
  pub applies : (r : ItemRefusal) → t ≡ Err r → P r
  pub least : (r s : ItemRefusal) → t ≡ Err r → P s → number r ≤ number s
  pub refused : (s : ItemRefusal) → P s → (r : ItemRefusal) × (t ≡ Err r)

-- nothing applies
pub none_applies : {A : Type 0} (P : ItemRefusal → Type 0) (x : A) → ((s : ItemRefusal) → P s → ⊥) → First P (Ok x)
none_applies P x n = record { applies = λ r e. cc; least = λ r s e h. absurd (n s h); refused = λ s h. absurd (n s h) }

-- one applies, and none below it
pub one_applies : {A : Type 0} (P : ItemRefusal → Type 0) (r : ItemRefusal) → P r → ((s : ItemRefusal) → P s → number r ≤ number s) → First {A = A} P (Err r)
one_applies {A} P r p l = record {
  applies = λ k e. let s : r ≡ k = cc in subst P s p;
  least = λ k s e h. let same : r ≡ k = cc in subst (λ (i : ItemRefusal). number i ≤ number s) same (l s h);
  refused = λ s h. (r, refl);
}

-- what follows a result that is not refused
pub then_first : {A B : Type 0} (P : ItemRefusal → Type 0) (t : Result A ItemRefusal) (f : A → B) → First P t → First P (then_ok t (λ x. Ok (f x)))
then_first P (Ok x) f h = record { applies = λ r e. cc; least = λ r s e p. let q = h.refused s p in cc; refused = λ s p. let q = h.refused s p in cc }
then_first P (Err k) f h = record {
  applies = λ r e. h.applies r (cc);
  least = λ r s e p. h.least r s (cc) p;
  refused = λ s p. let q = h.refused s p in let same : k ≡ q.0 = cc in (q.0, ap Err same);
}

-- duration, value and time
abbrev pub Fails : Option (List ℕ × ℕ) → Result Stated ValueFault → Option (Date × ℕ) → ItemRefusal → Type 0
Fails q v o DItem = ⊥
Fails q v o Code = ⊥
Fails q v o NoCodeOrInterval = ⊥
Fails q v o NoDuration = q ≡ None
Fails q v o Value = v ≡ Err fault.Malformed
Fails q v o TooLarge = v ≡ Err fault.TooLarge
Fails q v o NoTime = o ≡ None

abbrev pub chain : Option (List ℕ × ℕ) → Result Stated ValueFault → Option (Date × ℕ) → (List ℕ × ℕ → Stated → Date × ℕ → Entry) → Result Entry ItemRefusal
chain q v o f = then_ok (ok_or q NoDuration) (λ x. then_ok (item_refusal v) (λ y. then_ok (ok_or o NoTime) (λ z. Ok (f x y z))))

from_nine : (q : Option (List ℕ × ℕ)) (v : Result Stated ValueFault) (o : Option (Date × ℕ)) (s : ItemRefusal) → Fails q v o s → 9 ≤ number s
from_nine q v o DItem h = absurd h
from_nine q v o Code h = absurd h
from_nine q v o NoCodeOrInterval h = absurd h
from_nine q v o NoDuration h = omega arith
from_nine q v o Value h = omega arith
from_nine q v o TooLarge h = omega arith
from_nine q v o NoTime h = omega arith

from_ten : (x : List ℕ × ℕ) (v : Result Stated ValueFault) (o : Option (Date × ℕ)) (s : ItemRefusal) → Fails (Some x) v o s → 10 ≤ number s
from_ten x v o DItem h = absurd h
from_ten x v o Code h = absurd h
from_ten x v o NoCodeOrInterval h = absurd h
from_ten x v o NoDuration h = cc
from_ten x v o Value h = omega arith
from_ten x v o TooLarge h = omega arith
from_ten x v o NoTime h = omega arith

from_eleven : (x : List ℕ × ℕ) (o : Option (Date × ℕ)) (s : ItemRefusal) → Fails (Some x) (Err fault.TooLarge) o s → 11 ≤ number s
from_eleven x o DItem h = absurd h
from_eleven x o Code h = absurd h
from_eleven x o NoCodeOrInterval h = absurd h
from_eleven x o NoDuration h = cc
from_eleven x o Value h = cc
from_eleven x o TooLarge h = omega arith
from_eleven x o NoTime h = omega arith

from_twelve : (x : List ℕ × ℕ) (y : Stated) (o : Option (Date × ℕ)) (s : ItemRefusal) → Fails (Some x) (Ok y) o s → 12 ≤ number s
from_twelve x y o DItem h = absurd h
from_twelve x y o Code h = absurd h
from_twelve x y o NoCodeOrInterval h = absurd h
from_twelve x y o NoDuration h = cc
from_twelve x y o Value h = cc
from_twelve x y o TooLarge h = cc
from_twelve x y o NoTime h = omega arith

none_fails : (x : List ℕ × ℕ) (y : Stated) (z : Date × ℕ) (s : ItemRefusal) → Fails (Some x) (Ok y) (Some z) s → ⊥
none_fails x y z DItem h = h
none_fails x y z Code h = h
none_fails x y z NoCodeOrInterval h = h
none_fails x y z NoDuration h = cc
none_fails x y z Value h = cc
none_fails x y z TooLarge h = cc
none_fails x y z NoTime h = cc

pub chain_first : (q : Option (List ℕ × ℕ)) (v : Result Stated ValueFault) (o : Option (Date × ℕ)) (f : List ℕ × ℕ → Stated → Date × ℕ → Entry) → First (Fails q v o) (chain q v o f)
chain_first None v o f = one_applies (Fails None v o) NoDuration refl (from_nine None v o)
chain_first (Some x) (Err fault.Malformed) o f = one_applies (Fails (Some x) (Err fault.Malformed) o) Value refl (from_ten x (Err fault.Malformed) o)
chain_first (Some x) (Err fault.TooLarge) o f = one_applies (Fails (Some x) (Err fault.TooLarge) o) TooLarge refl (from_eleven x o)
chain_first (Some x) (Ok y) None f = one_applies (Fails (Some x) (Ok y) None) NoTime refl (from_twelve x y None)
chain_first (Some x) (Ok y) (Some z) f = none_applies (Fails (Some x) (Ok y) (Some z)) (f x y z) (none_fails x y z)

-- one family of refusals in place of another
pub first_as : {A : Type 0} (P Q : ItemRefusal → Type 0) (t : Result A ItemRefusal) → ((r : ItemRefusal) → P r → Q r) → ((r : ItemRefusal) → Q r → P r) → First P t → First Q t
first_as P Q t f g h = record { applies = λ r e. f r (h.applies r e); least = λ r s e q. h.least r s e (g s q); refused = λ s q. h.refused s (g s q) }
