-- Two records with one entry are one record: that a field is good is a fact, of which there is one proof.
use Rattle.std.proofs.Common.{◌≡◌, true, Some, None, Option, refl, ap}
use mathlib.Core.Bool.{Bool-set}
use mathlib.Core.HLevel.{is_prop→PathP}
use Rattle.std.proofs.lemmas.Option.{same_Some}
use Rattle.std.specs.Option.{option_map}
use Rattle.instants.specs.Moments.{moment, minute_of}
use Rattle.instants.specs.Utc.{utc_time, utc_minute}
use Rattle.instants.specs.declared.utc_time.UtcTime.{UtcTime}
use Rattle.instants.specs.declared.utc_minute.UtcMinute.{UtcMinute}
use Rattle.quantity.specs.Amounts.{holdable}
use Rattle.quantity.specs.Codes.{full_code, duration_fits}
use Rattle.quantity.specs.Values.{value_of}
use Rattle.quantity.specs.declared.amount.Amount.{Amount}
use Rattle.quantity.specs.declared.code.Code.{Code}
use Rattle.quantity.specs.declared.parameter.Parameter.{Parameter}
use Rattle.quantity.specs.declared.qualifier.Qualifier.{Qualifier}
use Rattle.quantity.specs.declared.value.Value.{Value}
use Rattle.quantity.specs.declared.value.Value.TheVariants.{Missing, Known}
use Rattle.text.specs.Signs.{capital}
use Rattle.record.specs.declared.station.Station.{Station}
use Rattle.record.specs.Entries.{Entry, name}
use Rattle.record.specs.Stations.{station_text}
use Rattle.record.specs.Validity.{OneRecord}

same_station : (a b : Station) → name a ≡ name b → a ≡ b
same_station a b p = λ i. record { text = p i; ok = is_prop→PathP (λ j. station_text (p j) ≡ true) (λ j. Bool-set (station_text (p j)) true) a.ok b.ok i }

same_time : (a b : UtcTime) → moment a ≡ moment b → a ≡ b
same_time a b p = λ i. record { date = (p i).0; second = (p i).1; ok = is_prop→PathP (λ j. utc_time (p j).0 (p j).1 ≡ true) (λ j. Bool-set (utc_time (p j).0 (p j).1) true) a.ok b.ok i }

same_minute : (a b : UtcMinute) → minute_of a ≡ minute_of b → a ≡ b
same_minute a b p = λ i. record { date = (p i).0; minute = (p i).1; ok = is_prop→PathP (λ j. utc_minute (p j).0 (p j).1 ≡ true) (λ j. Bool-set (utc_minute (p j).0 (p j).1) true) a.ok b.ok i }

same_code : (a b : Code) → a.signs ≡ b.signs → a ≡ b
same_code a b p = λ i. record { signs = p i; ok = is_prop→PathP (λ j. full_code (p j) ≡ true) (λ j. Bool-set (full_code (p j)) true) a.ok b.ok i }

same_parameter : (a b : Parameter) → a.code ≡ b.code → a.duration ≡ b.duration → a ≡ b
same_parameter a b p q = λ i. record {
  code = p i;
  duration = q i;
  ok = is_prop→PathP (λ j. duration_fits (p j).signs (q j) ≡ true) (λ j. Bool-set (duration_fits (p j).signs (q j)) true) a.ok b.ok i;
}

same_amount : (a b : Amount) → a.tenthousandths ≡ b.tenthousandths → a ≡ b
same_amount a b p = λ i. record { tenthousandths = p i; ok = is_prop→PathP (λ j. holdable (p j) ≡ true) (λ j. Bool-set (holdable (p j)) true) a.ok b.ok i }

same_value : (v w : Value) → value_of v ≡ value_of w → v ≡ w
same_value Missing Missing p = refl
same_value Missing (Known b) p = cc
same_value (Known a) Missing p = cc
same_value (Known a) (Known b) p = ap Known (same_amount a b (same_Some _ _ p))

same_qualifier : (a b : Qualifier) → a.letter ≡ b.letter → a ≡ b
same_qualifier a b p = λ i. record { letter = p i; ok = is_prop→PathP (λ j. capital (p j) ≡ true) (λ j. Bool-set (capital (p j)) true) a.ok b.ok i }

same_option : {A B : Type 0} (f : A → B) → ((a b : A) → f a ≡ f b → a ≡ b) → (s t : Option A) → option_map f s ≡ option_map f t → s ≡ t
same_option f same None None p = refl
same_option f same None (Some b) p = cc
same_option f same (Some a) None p = cc
same_option f same (Some a) (Some b) p = ap Some (same a b (same_Some _ _ p))

pub one_record : OneRecord
one_record r s p =
    let station = same_station r.station s.station (ap (λ (e : Entry). e.station) p) in
    let observed = same_time r.observed s.observed (ap (λ (e : Entry). e.observed) p) in
    let created = same_option minute_of same_minute r.created s.created (ap (λ (e : Entry). e.created) p) in
    let code = same_code r.parameter.code s.parameter.code (ap (λ (e : Entry). e.code) p) in
    let parameter = same_parameter r.parameter s.parameter code (ap (λ (e : Entry). e.duration) p) in
    let value = same_value r.value s.value (ap (λ (e : Entry). e.value) p) in
    let qualifier = same_qualifier r.qualifier s.qualifier (ap (λ (e : Entry). e.qualifier) p) in
    let source = same_option name same_station r.source s.source (ap (λ (e : Entry). e.source) p) in
    λ i. record {
      station = station i;
      observed = observed i;
      created = created i;
      parameter = parameter i;
      value = value i;
      qualifier = qualifier i;
      revised = (p i).revised;
      series = (p i).series;
      source = source i;
    }
