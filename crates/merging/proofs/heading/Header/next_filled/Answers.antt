use Rattle.std.proofs.Common.{rules, tests}
use Rattle.merging.proofs.Finding.{found, found_fits}
use Rattle.merging.proofs.heading.Header.next_filled.Goals as goal

pub returns-clause-step : goal.returns-clause-step
returns-clause-step c =
    let ran = c.find.ensures.ran in
    found _ c.args.self.now c.find.result c.find.new.self ran.0 _ ran.1 ran.2 ran.3 ran.4 (λ p x b q k. search (rules, tests))

pub returns-clause-fits : goal.returns-clause-fits
returns-clause-fits c =
    let ran = c.find.ensures.ran in
    found_fits c.find.result c.args.self.now c.find.new.self ran.0 ran.2
