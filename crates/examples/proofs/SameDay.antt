-- A reading whose time in UTC is on the same day.
use Rattle.std.proofs.Common.{◌≡◌, ℕ, ◌+◌, ◌*◌, ◌/◌, ◌%◌, ◌<◌, Bool, true, pos, Some, None, ap, ◌∙◌, arith}
use Rattle.std.specs.Option.{option_map}
use Rattle.std.proofs.lemmas.Bool.{cond-true}
use Rattle.calendar.specs.declared.date.Date.{Date}
use Rattle.calendar.specs.Dates.{real, number, date_of}
use Rattle.calendar.specs.Ways.{and_then}
use Rattle.instants.specs.Moves.{reading_at, by_seconds, moved}
use Rattle.instants.specs.Utc.{utc_time}
use Rattle.calendar.proofs.Dates.{day_numbers}
use Rattle.daylight.specs.declared.zone.Zone.{Zone}
use Rattle.daylight.specs.Zones.{seconds_behind}
use Rattle.daylight.specs.Utc.{only_utc, to_utc}

at_second : (d : Date) (n t : ℕ) → real d ≡ true → t < 86400 → n ≡ number d * 86400 + t → reading_at n ≡ Some (d, t)
at_second d n t is low e =
    let days : n / 86400 ≡ number d = omega arith in
    let second : n % 86400 ≡ t = omega arith in
    ap (λ s. option_map {U = Date × ℕ} (λ x. (x, s)) (date_of (n / 86400))) second
    ∙ ap (option_map {U = Date × ℕ} (λ x. (x, t))) (ap date_of days ∙ day_numbers.day_back d is)

pub same_day : (d : Date) (s t : ℕ) (zone : Zone) (saves : Bool) → real d ≡ true → t < 86400 → utc_time d t ≡ true → s + seconds_behind zone saves ≡ t → to_utc (d, s) zone saves ≡ Some (d, t)
unfolding to_utc moved by_seconds
same_day d s t zone saves is low utc e =
    ap (λ o. and_then o only_utc) (cond-true (real d) (by_seconds (d, s) (pos (seconds_behind zone saves))) None is ∙ at_second d (number d * 86400 + s + seconds_behind zone saves) t is low (omega arith))
    ∙ cond-true (utc_time d t) (Some (d, t)) None utc
