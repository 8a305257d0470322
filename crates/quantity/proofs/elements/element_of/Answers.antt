use Rattle.std.proofs.Common.{sym, ap, ◌∙◌}
use Rattle.std.specs.List.{find}
use Rattle.quantity.specs.Elements.{row_named}
use Rattle.quantity.proofs.Rows.{found_fair, found_element}
use Rattle.quantity.proofs.elements.element_of.Goals as goal

pub invariant_of-result : goal.invariant_of-result
invariant_of-result c = record { ok = found_fair c.args.first c.args.second _ (sym c.in_ok-first.was ∙ c.find_row.ensures ∙ ap (find (row_named c.args.first c.args.second)) c.table.ensures) }

pub returns : goal.returns
returns c = found_element c.args.first c.args.second _ (sym c.in_ok-first.was ∙ c.find_row.ensures ∙ ap (find (row_named c.args.first c.args.second)) c.table.ensures)
