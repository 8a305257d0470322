use Rattle.std.proofs.Output.{has_written_of_eq}
use Rattle.calendar.proofs.Texts.{padded_to_4, padded_to_2}
use Rattle.calendar.proofs.date.DateDisplay.fmt.Goals as goal

pub returns-clause-writes : goal.returns-clause-writes
returns-clause-writes g c =
    let d = c.args.self.now in
    λ plain ok. has_written_of_eq _ _ _ _ _
    (rw (c.laid_out.ensures, c.laid_out-2.ensures, c.laid_out-3.ensures, padded_to_4 d.year, padded_to_2 d.month, padded_to_2 d.day))
    (c.write.ensures.writes plain ok)
