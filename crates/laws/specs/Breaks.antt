-- A line break in a .A or .E message is worth a slash.
use Rattle.std.specs.Prelude.{◌≡◌, ℕ, Bool, false, [], Ok}
use Rattle.std.specs.List.{AllByRecursion}
use Rattle.merging.specs.Headers.{header_items}
use Rattle.reader.specs.Kinds.{kind_of}
use Rattle.reader.specs.declared.kind.Form.{Form}
use Rattle.reader.specs.declared.kind.LineKind.TheVariants.{Opening}
use Rattle.events.specs.Events.{records}
use Rattle.events.specs.Room.{refusals}
use Rattle.daylight.specs.Settings.{Setting}
use Rattle.messages.specs.Models.{fresh}
use Rattle.logging.specs.Own.{own_items}
use Rattle.logging.specs.Walks.{comes}
use Rattle.openings.specs.Openings.{Opened, opened}
use Rattle.stages.specs.Stages.{is_table}
use Rattle.shef.specs.Texts.{Stretch, stretch}
use Rattle.laws.specs.Outside.{NoOpening}
use Rattle.laws.specs.Readings.{behind_fields, continuations}

-- a message of which nothing is refused comes to the records of its items, one after the other, on whatever line they stand
abbrev pub LineBreaks : Type 0
LineBreaks = (S : Setting) (e : ℕ) (s : Stretch) (f : Form) (v : Bool) (o : Opened)
    → kind_of s.0.1 ≡ Opening f v → is_table f ≡ false → AllByRecursion NoOpening s.1 → opened S.today f v s.0 ≡ Ok o → refusals (stretch S e s) ≡ []
    → records (stretch S e s) ≡ records (comes S o.common (fresh o.terms) (own_items f (header_items (behind_fields s.0 (Ok o)) (continuations s.1))))
