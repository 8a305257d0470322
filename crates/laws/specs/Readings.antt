-- How many readings a text has, by its items as they are parted, and that each comes to a record.
use Rattle.std.specs.Prelude.{◌≡◌, ℕ, ◌+◌, ◌-◌, ◌≤◌, Bool, true, false, cond, List, [], ◌∷◌, ◌++◌, length, drop, Ok, Err, Result}
use Rattle.std.specs.List.{AllByRecursion}
use Rattle.merging.specs.Headers.{header_items}
use Rattle.items.specs.Items.{message_items, body_items, is_blank}
use Rattle.merging.specs.Merging.{Sided, filled, from_header, own_items as line_items}
use Rattle.reader.specs.Kinds.{kind_of, is_continuation}
use Rattle.reader.specs.Lines.{Piece, lines}
use Rattle.reader.specs.declared.kind.Form.{Form}
use Rattle.reader.specs.declared.kind.Form.TheVariants.{A, B, E}
use Rattle.reader.specs.declared.kind.LineKind.{LineKind}
use Rattle.reader.specs.declared.kind.LineKind.TheVariants.{Opening, Continuation, End, Dotted, Other}
use Rattle.record.specs.Entries.{Entry}
use Rattle.record.specs.Stations.{station_of}
use Rattle.refusals.specs.declared.Fault.{Fault}
use Rattle.refusals.specs.declared.ItemRefusal.{ItemRefusal}
use Rattle.refusals.specs.declared.MessageRefusal.TheVariants.{Station}
use Rattle.refusals.specs.declared.Refusal.TheVariants.{Item}
use Rattle.terms.specs.Standing.{Standing}
use Rattle.events.specs.Events.{Event, refused, records}
use Rattle.events.specs.Passing.{logged_all}
use Rattle.events.specs.Room.{refusals}
use Rattle.daylight.specs.Settings.{Setting}
use Rattle.messages.specs.Models.{Common, fresh}
use Rattle.messages.specs.Roles.{is_plain}
use Rattle.logging.specs.Follow.{place_of, follow}
use Rattle.logging.specs.Own.{own_items}
use Rattle.openings.specs.Openings.{Opened, field, opened}
use Rattle.stages.specs.Stages.{is_table}
use Rattle.shef.specs.Texts.{is_opening, Stretch, cut, stretch, events}
use Rattle.laws.specs.Outside.{NoOpening}

-- how many items are neither empty nor D items
abbrev pub plain_items : List Piece → ℕ
plain_items [] = 0
plain_items (q ∷ qs) = cond (is_plain q.1) 1 0 + plain_items qs

-- of these each is a reading, but in .E the first is the code
abbrev pub readings_in : Form → List Piece → ℕ
readings_in A qs = plain_items qs
readings_in B qs = plain_items qs
readings_in E qs = plain_items qs - 1

-- the first item that was not read is refused
abbrev pub StopsBefore : List Sided → List Event → Type 0
StopsBefore [] es = es ≡ []
StopsBefore (x ∷ xs) es = (r : ItemRefusal) × (es ≡ refused (Item r) (place_of x) ∷ [])

-- items that start from an opening: as many records as there are readings among those that were read, and these are all, or one is refused
pub record Accounted (S : Setting) (m : Common) (t : Standing) (xs : List Sided) : Type 0 where
  pub read : List Sided
  pub left : List Sided
  pub logs : List (ℕ × Entry)
  pub end : List Event
  pub whole : xs ≡ read ++ left
  pub comes : follow S m (fresh t) xs (λ _. []) ≡ logged_all logs ++ end
  pub many : length logs ≡ readings_in m.form (line_items read)
  pub stops : StopsBefore left end

-- the items of an opening line, behind its fields
abbrev pub behind_fields : Piece → Result Opened Fault → List Piece
behind_fields l (Err x) = []
behind_fields l (Ok o) = message_items (l.0 + o.start) (drop o.start l.1)

-- the items of a body line, behind its station
abbrev pub behind_station : Piece → Result (List ℕ × ℕ) Fault → List Piece
behind_station l (Err x) = []
behind_station l (Ok n) = body_items (l.0 + n.1) (drop n.1 l.1)

abbrev pub line_readings : Piece → ℕ
line_readings l = cond (is_blank l.1) 0 (plain_items (behind_station l (field Station station_of l 0)))

-- the continuations with which lines begin, and the lines behind them
abbrev pub continuations : List Piece → List Piece
continuations [] = []
continuations (l ∷ ls) = cond (is_continuation (kind_of l.1)) (l ∷ continuations ls) []

abbrev pub behind_header : List Piece → List Piece
behind_header [] = []
behind_header (l ∷ ls) = cond (is_continuation (kind_of l.1)) (behind_header ls) (l ∷ ls)

abbrev pub is_end : LineKind → Bool
is_end (Opening f v) = false
is_end (Continuation f v) = false
is_end End = true
is_end Dotted = false
is_end Other = false

-- the readings of a table's body, up to its end
abbrev pub body_readings : List Piece → ℕ
body_readings [] = 0
body_readings (l ∷ ls) = cond (is_end (kind_of l.1)) 0 (line_readings l + body_readings ls)

-- the readings of a message that an opening begins
abbrev pub message_readings : Form → List Piece → List Piece → ℕ
message_readings A qs ls = readings_in A (header_items qs (continuations ls))
message_readings B qs ls = body_readings (behind_header ls)
message_readings E qs ls = readings_in E (header_items qs (continuations ls))

abbrev pub opened_readings : Setting → Piece → List Piece → LineKind → ℕ
opened_readings S l ls (Opening f v) = message_readings f (behind_fields l (opened S.today f v l)) ls
opened_readings S l ls (Continuation f v) = 0
opened_readings S l ls End = 0
opened_readings S l ls Dotted = 0
opened_readings S l ls Other = 0

abbrev pub stretch_readings : Setting → Stretch → ℕ
stretch_readings S s = opened_readings S s.0 s.1 (kind_of s.0.1)

abbrev pub readings_of : Setting → List Stretch → ℕ
readings_of S [] = 0
readings_of S (s ∷ ss) = stretch_readings S s + readings_of S ss

pub record RecordsAreReadings : Type 0 where
  -- the items of a message
  pub message : (S : Setting) (m : Common) (t : Standing) (qs : List Piece) → Accounted S m t (own_items m.form qs)
  -- the items of a body line, among those of its header
  pub line : (S : Setting) (m : Common) (t : Standing) (hs ls : List Piece) → is_table m.form ≡ true → Accounted S m t (from_header (filled hs) ls)
  -- an opening and its lines, of which nothing is refused
  pub opening : (S : Setting) (e : ℕ) (s : Stretch) → is_opening (kind_of s.0.1) ≡ true → AllByRecursion NoOpening s.1 → refusals (stretch S e s) ≡ [] → length (records (stretch S e s)) ≡ stretch_readings S s
  -- a text of which nothing is refused
  pub whole : (S : Setting) (text : List ℕ) → refusals (events S text) ≡ [] → length (records (events S text)) ≡ readings_of S (cut (lines text)).1
  -- and no text has more records than readings
  pub at_most : (S : Setting) (text : List ℕ) → length (records (events S text)) ≤ readings_of S (cut (lines text)).1
