-- What a message has said so far, in plain numbers and texts.
use Rattle.std.specs.Prelude.{ℕ, Bool, false, List, None, Option}
use Rattle.std.specs.Option.{option_map}
use Rattle.daylight.specs.declared.zone.Zone.{Zone}
use Rattle.terms.specs.Standing.{Standing, standing}
use Rattle.quantity.specs.declared.code.Code.{Code}
use Rattle.reader.specs.declared.kind.Form.{Form}
use Rattle.record.specs.Entries.{Entry, entry, name}
use Rattle.messages.specs.declared.message.Message.{Message}
use Rattle.messages.specs.declared.message.Progress.{Progress}
use Rattle.messages.specs.declared.message.Turn.{Turn}

-- what the records of a message, or of one line of its body, have in common
pub record Common : Type 0 where
  pub form : Form
  pub revised : Bool
  pub zone : Zone
  -- names in eight columns
  pub station : List ℕ
  pub source : Option (List ℕ)

abbrev pub common : Message → Common
common m = record { form = m.form; revised = m.revised; zone = m.zone; station = name m.station; source = option_map name m.source }

-- how far a message has come
pub record Reached : Type 0 where
  pub terms : Standing
  -- the full code that the next value takes
  pub code : Option (List ℕ)
  pub steps : ℕ
  -- a record has come of it
  pub begun : Bool

-- a message at its opening
abbrev pub fresh : Standing → Reached
fresh t = record { terms = t; code = None; steps = 0; begun = false }

abbrev pub signs_of : Code → List ℕ
signs_of c = c.signs

abbrev pub reached : Progress → Reached
reached p = record { terms = standing p.terms; code = option_map signs_of p.code; steps = p.steps; begun = p.begun }

abbrev pub turned : Turn → Reached × Option Entry
turned t = (reached t.progress, option_map entry t.record)
