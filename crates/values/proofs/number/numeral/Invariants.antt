use Rattle.std.proofs.Common.{◌≡◌, ◌^◌, ◌<◌, drop}
use Rattle.values.specs.Numbers.{all_digits, said}
use Rattle.values.proofs.number.numeral.Given as goal

abbrev pub invariant-loop-b : goal.invariant-loop-b
invariant-loop-b l = (l.n < 10 ^ l.b-index) × (all_digits (drop l.b-index l.digits) ≡ all_digits l.digits) × (said l.n (drop l.b-index l.digits) ≡ said 0 l.digits)
