use Rattle.std.proofs.Common.{false, not, length, ap, ◌∙◌, inl, sym, arith, rules, tests}
use Rattle.items.proofs.Scan.{length-marks, run_is}
use Rattle.items.proofs.mark.run_len.Goals as goal
use Rattle.items.specs.Marks.{marks, passes}
use Rattle.std.proofs.lemmas.Iterator.Consumers.{YieldsList-from_first}
use Rattle.std.proofs.lemmas.Iterator.Search.{position_from_yields_List}
use Rattle.std.proofs.lemmas.List.Sums.{prefix_len-le-length}
use Rattle.std.specs.Option.{unwrap_or}

pub position-end-requires-clause-fits : goal.position-end-requires-clause-fits
position-end-requires-clause-fits c = inl (omega (arith, ap length c.marks_of.ensures, length-marks false c.args.bytes.now))

pub returns-clause-value : goal.returns-clause-value
returns-clause-value c =
    let ms = marks false c.args.bytes.now in
    let road = YieldsList-from_first (λ m. m) (λ s. marks s.inside s.rest.now) {s = c.marks_of.result} ms c.marks_of.ensures in
    c.unwrap_or.ensures
    ∙ ap (λ o. unwrap_or o (length c.args.bytes.now)) (position_from_yields_List (λ m. not (passes c.args.run m)) c.position-end.new.self _ c.position-end.result c.position-end.ensures.ran road (λ x b q k. search (rules, tests)))
    ∙ run_is (passes c.args.run) ms (length c.args.bytes.now) (sym (length-marks false c.args.bytes.now))

pub returns-clause-valid : goal.returns-clause-valid
returns-clause-valid c =
    omega (arith, returns-clause-value c, prefix_len-le-length (passes c.args.run) (marks false c.args.bytes.now), length-marks false c.args.bytes.now)
