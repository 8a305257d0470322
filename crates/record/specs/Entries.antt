-- What a record says, in plain numbers and texts.
use Rattle.std.specs.Prelude.{ℕ, Bool, true, false, List, ℤ, Option}
use Rattle.std.specs.Option.{option_map}
use Rattle.calendar.specs.declared.date.Date.{Date}
use Rattle.instants.specs.Moments.{moment, minute_of}
use Rattle.quantity.specs.Values.{value_of}
use Rattle.record.specs.declared.record.Record.{Record}
use Rattle.record.specs.declared.series.Series.{Series}
use Rattle.record.specs.declared.series.Series.TheVariants.{Single, First, Later}
use Rattle.record.specs.declared.station.Station.{Station}

pub record Entry : Type 0 where
  -- the name in eight columns
  pub station : List ℕ
  -- a date and a second of the day, UTC
  pub observed : Date × ℕ
  -- a date and a minute of the day, UTC
  pub created : Option (Date × ℕ)
  -- seven signs
  pub code : List ℕ
  pub duration : ℕ
  -- ten-thousandths, or none where it is missing
  pub value : Option ℤ
  pub qualifier : ℕ
  pub revised : Bool
  pub series : Series
  -- the name of the message's source, in eight columns
  pub source : Option (List ℕ)

abbrev pub name : Station → List ℕ
name s = s.text

abbrev pub entry : Record → Entry
entry r = record {
  station = name r.station;
  observed = moment r.observed;
  created = option_map minute_of r.created;
  code = r.parameter.code.signs;
  duration = r.parameter.duration;
  value = value_of r.value;
  qualifier = r.qualifier.letter;
  revised = r.revised;
  series = r.series;
  source = option_map name r.source;
}

-- the number by which users know a revision
abbrev pub revision_number : Bool → ℕ
revision_number false = 0
revision_number true = 1

-- and that of a record by itself, of the first of a series, and of a later one
abbrev pub mark_number : Series → ℕ
mark_number Single = 0
mark_number First = 1
mark_number Later = 2
