use Rattle.std.proofs.Common.{refl, arith}
use Rattle.std.proofs.lemmas.List.{nil_from_length}
use Rattle.line.proofs.Rows.{none_shown}
use Rattle.sink.specs.Listings.{showing}
use Rattle.sink.proofs.listing.Listing.new.Goals as goal

pub invariant_of-result : goal.invariant_of-result
invariant_of-result c = record { fits = omega arith; shown = none_shown c.args.bytes.now }

pub returns : goal.returns
returns c = record { empty = nil_from_length _ (showing _).many; room = omega arith; kept = refl; lent = refl }
