use Rattle.std.proofs.Common.{◌≡◌, [], sym, ◌∙◌, subst, rules}
use Rattle.reader.proofs.Cuts.{no_lines}
use Rattle.reader.specs.Lines.{FirstLine, last, lines_ahead}
use Rattle.listing.proofs.input.split_line.Goals as goal

pub returns-in-None : goal.returns-in-None
returns-in-None c =
    let none : lines_ahead c.new-lines.result ≡ [] = search rules in
    subst (λ text. FirstLine text [] []) (sym (no_lines c.args.input.now (sym c.new-lines.ensures.whole ∙ none))) (last tt)
