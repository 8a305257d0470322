-- Worked examples of the rules.
use Rattle.std.specs.Prelude.{◌≡◌, ℕ, ◌+◌, ◌-◌, ◌*◌, false, List, pos, negsuc, Some, None, Err, codes, Option}
use Rattle.calendar.specs.declared.date.Date.{Date}
use Rattle.calendar.specs.Dates.{number}
use Rattle.calendar.specs.Messages.{message_date}
use Rattle.calendar.specs.Ways.{and_then}
use Rattle.daylight.specs.Sundays.{law_daylight}
use Rattle.daylight.specs.Zones.{zone_of}
use Rattle.events.specs.Events.{fault}
use Rattle.openings.specs.Openings.{opened}
use Rattle.quantity.specs.declared.units.Units.TheVariants.{Si}
use Rattle.reader.specs.declared.kind.Form.TheVariants.{A}
use Rattle.refusals.specs.Numbers.{number_of}
use Rattle.refusals.specs.declared.MessageRefusal.TheVariants as why
use Rattle.refusals.specs.declared.Refusal.TheVariants.{Message}
use Rattle.terms.specs.declared.stage.Stage.TheVariants.{BeforeSteps}
use Rattle.daylight.specs.Utc.{utc_of}
use Rattle.terms.specs.Items.{after_item}
use Rattle.terms.specs.Observed.{observed_at}
use Rattle.terms.specs.Standing.{opening}
use Rattle.values.specs.Examples.{amount, missing}
use Rattle.values.specs.Reading.{read_value}

abbrev pub day : ℕ → ℕ → ℕ → Date
day y m d = record { year = y; month = m; day = d }

-- a date, an hour and a minute
abbrev pub clock : Date → ℕ → ℕ → Date × ℕ
clock d h m = (d, h * 3600 + m * 60)

-- a reading in the zone of a word, in UTC under the daylight of the law
abbrev pub in_utc : List ℕ → Date × ℕ → Option (Date × ℕ)
in_utc word r = and_then (zone_of word) (λ zone. utc_of law_daylight zone r)

-- the time of a step where a message of a date opens in the zone of a word and an interval is its only D item
abbrev pub step_of : Date → List ℕ → List ℕ → ℕ → Option (Date × ℕ)
step_of d word interval step =
    and_then (zone_of word) (λ zone.
    and_then (after_item d law_daylight zone BeforeSteps interval (opening d zone)) (λ s. observed_at law_daylight zone s step))

pub record WorkedExamples : Type 0 where
  -- 19 September is 183 days away either way, and the earlier wins; 18 September is nearer ahead
  pub tie : message_date (codes "0919") (day 2024 3 20) ≡ Some (day 2023 9 19)
  pub tie_behind : number (day 2024 3 20) - number (day 2023 9 19) ≡ 183
  pub tie_ahead : number (day 2024 9 19) - number (day 2024 3 20) ≡ 183
  pub nearer_ahead : message_date (codes "0918") (day 2024 3 20) ≡ Some (day 2024 9 18)
  -- only the current year and the two beside it are looked at
  pub no_leap_day : message_date (codes "0229") (day 2022 6 1) ≡ None
  -- an opening with it is refusal 5 at its date
  pub no_leap_day_refused : opened (day 2022 6 1) A false (0, codes ".A KLMO3 0229 HG 1") ≡ Err (fault (Message why.Date) 9)
  pub no_leap_day_is_5 : number_of (Message why.Date) ≡ 5
  pub leap_day_ahead : message_date (codes "0229") (day 2023 6 1) ≡ Some (day 2024 2 29)
  -- daylight time begins at 02:00 of its first day
  pub standard_time : in_utc (codes "C") (clock (day 2024 3 10) 1 59) ≡ Some (clock (day 2024 3 10) 7 59)
  pub daylight_time : in_utc (codes "C") (clock (day 2024 3 10) 2 0) ≡ Some (clock (day 2024 3 10) 7 0)
  -- steps are counted from the start, so that a day that was cut comes back
  pub start : step_of (day 2024 1 31) (codes "Z") (codes "DIM+1") 0 ≡ Some (clock (day 2024 1 31) 12 0)
  pub cut_day : step_of (day 2024 1 31) (codes "Z") (codes "DIM+1") 1 ≡ Some (clock (day 2024 2 29) 12 0)
  pub whole_day : step_of (day 2024 1 31) (codes "Z") (codes "DIM+1") 2 ≡ Some (clock (day 2024 3 31) 12 0)
  -- 1.2573 km is 0.7813 miles, and so below zero
  pub km : read_value (codes "XVIRZZZ") Si (codes "1.2573") ≡ amount (pos 7813)
  pub km_below : read_value (codes "XVIRZZZ") Si (codes "-1.2573") ≡ amount (negsuc 7812)
  -- -9999 is missing before conversion and after it
  pub missing_before : read_value (codes "TAIRZZZ") Si (codes "-9999") ≡ missing
  pub missing_after : read_value (codes "TAIRZZZ") Si (codes "-5572.7778") ≡ missing
