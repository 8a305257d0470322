-- What the reader's answers say.
use Rattle.std.specs.Prelude.{List, [], ◌∷◌, Some, None, Option}
use Rattle.refusals.specs.declared.Fault.{Fault}
use Rattle.events.specs.Events.{Event, refused}

-- a refusal, if there is one
abbrev pub closed : Option Fault → List Event
closed None = []
closed (Some f) = refused f.refusal f.place ∷ []
