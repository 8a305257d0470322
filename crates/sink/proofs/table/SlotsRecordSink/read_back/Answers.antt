use Rattle.std.proofs.Common.{sym, ap, ◌∙◌, arith}
use lib.ListN.{length-map}
use Rattle.std.proofs.lemmas.List.{get_or-map}
use Rattle.slots.specs.Lists.{held}
use Rattle.record.specs.Entries.{entry}
use Rattle.sink.proofs.Cases.{some_weaker}
use Rattle.sink.proofs.table.SlotsRecordSink.read_back.Goals as goal

pub returns : goal.returns
returns c =
    let xs = held c.args.self.now in
    let long = length-map xs entry in
    some_weaker c.get.result c.get.ensures
    (λ h. omega (arith, long))
    (λ x h. (omega (arith, long), ap entry h.1 ∙ sym (get_or-map entry xs c.args.place x (entry x) h.0)))
