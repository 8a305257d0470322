-- The fields of an opening line: a station (in .B the source), a date, and perhaps a zone; and the station of a body line.
use Rattle.std.specs.Prelude.{ℕ, ◌+◌, Bool, List, length, drop, Some, None, Ok, Err, Option, Result}
use Rattle.std.specs.Option.{option_map, ok_or}
use Rattle.calendar.specs.declared.date.Date.{Date as Day}
use Rattle.calendar.specs.Messages.{message_date}
use Rattle.daylight.specs.declared.zone.Zone.{Zone}
use Rattle.daylight.specs.declared.zone.Saving.TheVariants.{Standard}
use Rattle.daylight.specs.Zones.{zone_of}
use Rattle.items.specs.Words.{first_word}
use Rattle.reader.specs.Kinds.{letters_of}
use Rattle.reader.specs.Lines.{Piece}
use Rattle.reader.specs.declared.kind.Form.{Form}
use Rattle.record.specs.Stations.{station_of}
use Rattle.refusals.specs.declared.Fault.{Fault}
use Rattle.refusals.specs.declared.MessageRefusal.{MessageRefusal}
use Rattle.refusals.specs.declared.MessageRefusal.TheVariants.{Station, Date}
use Rattle.refusals.specs.declared.Refusal.TheVariants.{Message}
use Rattle.events.specs.Events.{fault}
use Rattle.terms.specs.Standing.{Standing, opening}
use Rattle.messages.specs.Models.{Common}
use Rattle.messages.specs.Ways.{then_ok}

-- a word that was found from an offset on: what it says, and where in the line it begins and ends
abbrev pub placed_word : MessageRefusal → Piece → ℕ → Option (ℕ × (List ℕ × List ℕ)) → Result (List ℕ × (ℕ × ℕ)) Fault
placed_word r l from None = Err (fault (Message r) (l.0 + length l.1))
placed_word r l from (Some w) = Ok (w.1.0, (from + w.0, from + w.0 + length w.1.0))

-- the next word of a line from an offset on; a missing one is refused at the line's end
unfoldable pub word_at : MessageRefusal → Piece → ℕ → Result (List ℕ × (ℕ × ℕ)) Fault
word_at r l from = placed_word r l from (first_word (drop from l.1))

-- the next word read as a field, and the offset behind it; a malformed one is refused at its first byte
unfoldable pub field : {A : Type 0} → MessageRefusal → (List ℕ → Option A) → Piece → ℕ → Result (A × ℕ) Fault
field r read l from = then_ok (word_at r l from) (λ w. ok_or (option_map (λ x. (x, w.1.1)) (read w.0)) (fault (Message r) (l.0 + w.1.0)))

abbrev pub utc : Zone
utc = record { hours = 0; saving = Standard }

abbrev pub zone_read : ℕ → ℕ → Option Zone → Zone × ℕ
zone_read from behind None = (utc, from)
zone_read from behind (Some z) = (z, behind)

abbrev pub zone_word : ℕ → Option (ℕ × (List ℕ × List ℕ)) → Zone × ℕ
zone_word from None = (utc, from)
zone_word from (Some w) = zone_read from (from + w.0 + length w.1.0) (zone_of w.1.0)

-- the zone is there exactly when the next word is a zone code, else it is UTC; and the offset behind it
unfoldable pub zone_field : List ℕ → ℕ → Zone × ℕ
zone_field line from = zone_word from (first_word (drop from line))

-- a message as its opening line leaves it
pub record Opened : Type 0 where
  pub common : Common
  pub terms : Standing
  -- the offset at which its items begin
  pub start : ℕ

abbrev pub opens_with : Form → Bool → List ℕ → Day → Zone × ℕ → Opened
opens_with f v name day z = record {
  common = record { form = f; revised = v; zone = z.0; station = name; source = None };
  terms = opening day z.0;
  start = z.1;
}

unfoldable pub opened : Day → Form → Bool → Piece → Result Opened Fault
opened today f v l =
    then_ok (field Station station_of l (letters_of l.1)) (λ n.
    then_ok (field Date (λ w. message_date w today) l n.1) (λ d.
    Ok (opens_with f v n.0 d.0 (zone_field l.1 d.1))))
