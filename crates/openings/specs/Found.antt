-- What the opening that was found stands for.
use Rattle.messages.specs.Models.{common}
use Rattle.terms.specs.Standing.{standing}
use Rattle.openings.specs.Openings.{Opened}
use Rattle.openings.specs.declared.Opening.{Opening}

abbrev pub opened_as : Opening → Opened
opened_as o = record { common = common o.message; terms = standing o.terms; start = o.start }
