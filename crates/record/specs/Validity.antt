-- Which entries a record can have, field by field.
use Rattle.std.specs.Prelude.{◌≡◌, true, IfSome}
use Rattle.instants.specs.Utc.{utc_time, utc_minute}
use Rattle.quantity.specs.Amounts.{holdable}
use Rattle.quantity.specs.Codes.{full_code, duration_fits}
use Rattle.text.specs.Signs.{capital}
use Rattle.record.specs.declared.record.Record.{Record}
use Rattle.record.specs.Entries.{Entry, entry}
use Rattle.record.specs.Stations.{station_text}

pub record Valid (e : Entry) : Type 0 where
  pub station : station_text e.station ≡ true
  pub observed : utc_time e.observed.0 e.observed.1 ≡ true
  -- none, or a time to the minute
  pub created : IfSome e.created (λ t. utc_minute t.0 t.1 ≡ true)
  pub code : full_code e.code ≡ true
  pub duration : duration_fits e.code e.duration ≡ true
  -- none where it is missing, or an amount that a record can hold
  pub value : IfSome e.value (λ z. holdable z ≡ true)
  pub qualifier : capital e.qualifier ≡ true
  pub source : IfSome e.source (λ s. station_text s ≡ true)

-- no record has another entry
abbrev pub RecordsValid : Type 0
RecordsValid = (r : Record) → Valid (entry r)

-- and no two records have the same entry
abbrev pub OneRecord : Type 0
OneRecord = (r s : Record) → entry r ≡ entry s → r ≡ s
