-- What is known of a value that follows from another.
use Rattle.std.proofs.Common.{◌≡◌, Some, None, Option, refl, ap}
use Rattle.std.proofs.lemmas.Option.{none-some}
use Rattle.calendar.specs.Ways.{and_then}

pub then_some : {A B : Type 0} (o : Option A) (f : A → Option B) (y : B) → and_then o f ≡ Some y → (x : A) × (o ≡ Some x) × (f x ≡ Some y)
then_some None f y e = absurd (none-some y e)
then_some (Some x) f y e = (x, refl, e)

pub then_known : {A B : Type 0} (o : Option A) (x : A) (f : A → Option B) → o ≡ Some x → and_then o f ≡ f x
then_known o x f is = ap (λ p. and_then p f) is
