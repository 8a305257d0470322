use Rattle.std.proofs.Common.{drop, sym, ap, ◌∙◌}
use Rattle.std.proofs.lemmas.List.{take_rest}
use Rattle.record.specs.Stations.{blanks}
use Rattle.record.proofs.Names.{behind_signs}
use Rattle.record.proofs.station.names.signs_then_blanks.Goals as goal

pub returns : goal.returns
returns c =
    let s = c.args.text.now in
    let front = c.signs_at_front in
    c.all_blanks.ensures ∙ ap blanks (take_rest s front.result) ∙ ap (λ k. blanks (drop k s)) front.ensures.value ∙ sym (behind_signs s)
