use Rattle.std.proofs.Common.{length, sym, ap, ◌∙◌}
use Rattle.std.proofs.lemmas.Slice.Eq.{slice_eq-Decides}
use Rattle.line.specs.Lines.{line}
use Rattle.line.proofs.Cut.{line_long}
use Rattle.std.proofs.lemmas.Bool.{both_ways}
use Rattle.line.proofs.Fields.{some_same}
use Rattle.line.proofs.read.record_of.Goals as goal
use Rattle.std.proofs.lemmas.Bool.Decides.{Decides-eqb}

pub returns-then-line-ne-LINE_LENGTH : goal.returns-then-line-ne-LINE_LENGTH
returns-then-line-ne-LINE_LENGTH c e v h = c.if-line-ne-LINE_LENGTH.true (ap length (sym h) ∙ line_long e v)

pub returns-then-eq : goal.returns-then-eq
returns-then-eq c = sym ((slice_eq-Decides Decides-eqb _ _ _ c.eq.ensures).0 c.if-eq.true ∙ c.as_slice.ensures ∙ c.line_of.ensures)

pub returns-else-eq : goal.returns-else-eq
returns-else-eq c e v h =
    let same = some_same (c.in_ok-record.ensures e v h) in
    let equal = (slice_eq-Decides Decides-eqb _ _ _ c.eq.ensures).1 (sym h ∙ ap line (sym same) ∙ sym (c.as_slice.ensures ∙ c.line_of.ensures)) in
    both_ways c.eq.result c.if-eq.false equal
