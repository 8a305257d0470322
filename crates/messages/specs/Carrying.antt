-- What the record of an item carries.
use Rattle.std.specs.Prelude.{◌≡◌, Bool, true, Some, None, Ok, Option, slice_index}
use Rattle.merging.specs.Merging.{Sided}
use Rattle.terms.specs.Observed.{observed_at}
use Rattle.quantity.specs.Codes.{number_for}
use Rattle.reader.specs.declared.kind.Form.{Form}
use Rattle.reader.specs.declared.kind.Form.TheVariants.{A, B, E}
use Rattle.record.specs.Entries.{Entry}
use Rattle.record.specs.declared.series.Series.{Series}
use Rattle.record.specs.declared.series.Series.TheVariants.{Single}
use Rattle.values.specs.Reading.{read_value}
use Rattle.daylight.specs.Settings.{Setting}
use Rattle.messages.specs.Models.{Common, Reached}
use Rattle.messages.specs.Roles.{Asked, item_asked}
use Rattle.messages.specs.Turns.{mark_of_step}

-- what all records of a message, or of one line of a table's body, have in common
pub record Shares (m : Common) (e : Entry) : Type 0 where
  pub station : e.station ≡ m.station
  pub source : e.source ≡ m.source
  pub revised : e.revised ≡ m.revised

-- only steps are marked, by whether a record came of the message before
abbrev pub mark_in : Form → Bool → Series
mark_in A begun = Single
mark_in B begun = Single
mark_in E begun = mark_of_step begun

-- a series begins with the first record of a message
abbrev pub begun_after : Form → Bool → Option Entry → Bool
begun_after A begun o = begun
begun_after B begun o = begun
begun_after E begun None = begun
begun_after E begun (Some e) = true

-- the record of a value, where its message has come so far
pub record Carries (S : Setting) (m : Common) (p : Reached) (a : Asked) (e : Entry) : Type 0 where
  pub shares : Shares m e
  -- the value's code, and the number of the code's duration
  pub code : a.code ≡ Some e.code
  pub duration : number_for (slice_index e.code 2) p.terms.variable ≡ Some e.duration
  -- what its text says of the code's element, in the units in force
  pub says : read_value e.code p.terms.units a.text ≡ Ok (e.value, e.qualifier)
  -- the time of its step, and the creation time in force
  pub observed : observed_at S.daylight m.zone p.terms a.step ≡ Some e.observed
  pub created : e.created ≡ p.terms.created
  pub series : e.series ≡ mark_in m.form p.begun

-- the record of an item is that of the value that it gives
abbrev pub RecordOf : Setting → Common → Reached → Sided → Entry → Type 0
RecordOf S m p x e = (a : Asked) × ((item_asked m p x ≡ Some a) × Carries S m p a e)
