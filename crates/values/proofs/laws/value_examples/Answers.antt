use Rattle.std.proofs.Common.{refl}
use Rattle.quantity.specs.Elements.{elements}
use Rattle.values.specs.Reading.{read_for}
use Rattle.values.proofs.laws.value_examples.Goals as goal

pub returns : goal.returns
unfolding elements read_for
returns c = record { km = refl; km_below = refl; absent_before = refl; absent_after = refl; meters = refl; largest = refl; too_large = refl; smallest = refl; too_low = refl; trace = refl; no_trace = refl; estimated = refl }
