use Rattle.std.proofs.Common.{◌≡◌, length}
use Rattle.merging.proofs.heading.Header.next_item.Given as goal
use Rattle.merging.specs.Headers.{header_ahead}
use Rattle.reader.specs.Lines.{lines_ahead}

abbrev pub invariant-loop-item : goal.invariant-loop-item
invariant-loop-item l = header_ahead l.initial.self ≡ header_ahead l.self

abbrev pub decreases-loop-item : goal.decreases-loop-item
decreases-loop-item l = length (lines_ahead l.self.lines)
