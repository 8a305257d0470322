-- The entry of a record is valid.
use Rattle.std.proofs.Common.{◌≡◌, true, IfSome, Some, None, Option}
use mathlib.Core.Bool.{Bool-set}
use mathlib.Core.HLevel.{Unit-prop}
use Rattle.std.specs.Option.{option_map}
use Rattle.instants.specs.Utc.{utc_minute}
use Rattle.instants.specs.declared.utc_minute.UtcMinute.{UtcMinute}
use Rattle.quantity.specs.Amounts.{holdable}
use Rattle.quantity.specs.Values.{value_of}
use Rattle.quantity.specs.declared.value.Value.{Value}
use Rattle.quantity.specs.declared.value.Value.TheVariants.{Missing, Known}
use Rattle.record.specs.declared.station.Station.{Station}
use Rattle.instants.specs.Moments.{minute_of}
use Rattle.record.specs.Entries.{Entry, name}
use Rattle.record.specs.Stations.{station_text}
use Rattle.record.specs.Validity.{Valid, RecordsValid}

created_valid : (t : Option UtcMinute) → IfSome (option_map minute_of t) (λ m. utc_minute m.0 m.1 ≡ true)
created_valid None = tt
created_valid (Some t) = t.ok

value_valid : (v : Value) → IfSome (value_of v) (λ z. holdable z ≡ true)
value_valid Missing = tt
value_valid (Known a) = a.ok

source_valid : (s : Option Station) → IfSome (option_map name s) (λ n. station_text n ≡ true)
source_valid None = tt
source_valid (Some s) = s.ok

pub valid : RecordsValid
valid r = record {
  station = r.station.ok;
  observed = r.observed.ok;
  created = created_valid r.created;
  code = r.parameter.code.ok;
  duration = r.parameter.ok;
  value = value_valid r.value;
  qualifier = r.qualifier.ok;
  source = source_valid r.source;
}

found_prop : {X : Type 0} (P : X → Type 0) (o : Option X) → ((x : X) → IsProp (P x)) → IsProp (IfSome o P)
found_prop P None h = Unit-prop
found_prop P (Some x) h = h x

-- that an entry is valid is a fact, of which there is one proof
pub valid_prop : (e : Entry) → IsProp (Valid e)
valid_prop e a b = λ i. record {
  station = Bool-set _ _ a.station b.station i;
  observed = Bool-set _ _ a.observed b.observed i;
  created = found_prop (λ t. utc_minute t.0 t.1 ≡ true) e.created (λ t. Bool-set _ _) a.created b.created i;
  code = Bool-set _ _ a.code b.code i;
  duration = Bool-set _ _ a.duration b.duration i;
  value = found_prop (λ z. holdable z ≡ true) e.value (λ z. Bool-set _ _) a.value b.value i;
  qualifier = Bool-set _ _ a.qualifier b.qualifier i;
  source = found_prop (λ n. station_text n ≡ true) e.source (λ n. Bool-set _ _) a.source b.source i;
}
