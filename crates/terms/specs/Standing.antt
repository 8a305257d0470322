-- The terms that stand for the next value, as plain numbers.
use Rattle.std.specs.Prelude.{ℕ, cond, None, Option, ◌==◌}
use Rattle.std.specs.Option.{option_map}
use Rattle.calendar.specs.declared.date.Date.{Date}
use Rattle.instants.specs.declared.moves.Move.{Move}
use Rattle.daylight.specs.declared.zone.Zone.{Zone}
use Rattle.quantity.specs.declared.units.Units as the_units
use Rattle.quantity.specs.declared.units.Units.TheVariants.{English}
use Rattle.ditems.specs.declared.groups.Groups.{Groups}
use Rattle.ditems.specs.Groups.{groups_at}
use Rattle.terms.specs.declared.terms.Terms.{Terms}

-- the creation time is a date and a minute of the day in UTC, the variable duration its number
pub record Standing : Type 0 where
  pub groups : Groups
  pub created : Option (Date × ℕ)
  pub units : the_units.Units
  pub variable : Option ℕ
  pub relative : Option Move
  pub interval : Option Move

abbrev pub standing : Terms → Standing
standing t =
    record {
      groups = t.groups;
      created = option_map {U = Date × ℕ} (λ m. (m.date, m.minute)) t.created;
      units = t.units;
      variable = option_map (λ v. v.number) t.variable;
      relative = t.relative;
      interval = t.interval;
    }

abbrev pub opening_hour : Zone → ℕ
opening_hour zone = cond (zone.hours == 0) 12 24

-- at a message's date: 12:00 in UTC, 24:00 in other zones, English units, and nothing else
abbrev pub opening : Date → Zone → Standing
opening d zone =
    record {
      groups = groups_at d (opening_hour zone);
      created = None;
      units = English;
      variable = None;
      relative = None;
      interval = None;
    }
