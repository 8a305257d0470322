use Rattle.std.proofs.Common.{length, Some, sym, ap, ◌∙◌, arith}
use Rattle.std.proofs.lemmas.Bool.{cond-true, le-leb, and_from}
use Rattle.record.specs.Stations.{station_text}
use Rattle.record.proofs.Names.{padded, columns}
use Rattle.record.proofs.station.Station.new.Goals as goal

pub invariant_of-result : goal.invariant_of-result
invariant_of-result c =
    let word = c.args.word.now in
    record { ok = ap station_text (columns word _ c.copy_from_slice.ensures.after (omega arith)) ∙ padded word (sym c.if-not-all_signs.ensures) (omega arith) (omega arith) }

pub returns : goal.returns
returns c =
    let word = c.args.word.now in
    ap Some (columns word _ c.copy_from_slice.ensures.after (omega arith))
    ∙ sym (cond-true _ _ _ (and_from _ _ (le-leb 3 (length word) (omega arith)) (and_from _ _ (le-leb (length word) 8 (omega arith)) (sym c.if-not-all_signs.ensures))))
