-- What each kind of line does in each stage of reading.
use Rattle.std.specs.Prelude.{ℕ, ◌+◌, Bool, true, false, cond, ◌&&◌, List, [], ◌∷◌, ◌++◌, drop, Some, None, Ok, Err, Option, Result, ◌==◌}
use Rattle.merging.specs.Headers.{continued_items}
use Rattle.items.specs.Items.{message_items, body_items, is_blank}
use Rattle.merging.specs.Merging.{Sided, filled, from_header}
use Rattle.reader.specs.Kinds.{kind_of, continuation_of, readable}
use Rattle.reader.specs.Lines.{Piece}
use Rattle.reader.specs.declared.kind.Continuation.{Continuation as Number}
use Rattle.reader.specs.declared.kind.Form.{Form}
use Rattle.reader.specs.declared.kind.Form.TheVariants.{A, B, E}
use Rattle.reader.specs.declared.kind.LineKind.{LineKind}
use Rattle.reader.specs.declared.kind.LineKind.TheVariants.{Opening, Continuation, End, Dotted, Other}
use Rattle.record.specs.Stations.{station_of}
use Rattle.refusals.specs.declared.Fault.{Fault}
use Rattle.refusals.specs.declared.MessageRefusal.TheVariants as why
use Rattle.refusals.specs.declared.Refusal.TheVariants.{Message}
use Rattle.terms.specs.Standing.{Standing}
use Rattle.events.specs.Events.{Event, fault, refused}
use Rattle.daylight.specs.Settings.{Setting}
use Rattle.messages.specs.Models.{Common, Reached, fresh}
use Rattle.logging.specs.Follow.{follow}
use Rattle.logging.specs.Own.{own_items}
use Rattle.openings.specs.Openings.{Opened, field, opened}

pub data Stage : Type 0 where
  outside : Stage
  -- a message was refused, and the next opening is looked for
  skipping : Stage
  -- in the opening of a message and its continuations: what its records have in common, the terms of its opening, how far it has
  -- come, the number of its last continuation, and its items so far
  header : Common → Standing → Reached → ℕ → List Piece → Stage
  -- in the body of a table, with the items of its header
  body : Common → Standing → List Piece → Stage

-- what a line does: another stage, items and then another stage, or a refusal
pub data Moved : Type 0 where
  onto : Stage → Moved
  reads : Common → Reached → List Sided → (Reached → Stage) → Moved
  refuses : Fault → Moved

abbrev pub same_form : Form → Form → Bool
same_form A A = true
same_form A B = false
same_form A E = false
same_form B A = false
same_form B B = true
same_form B E = false
same_form E A = false
same_form E B = false
same_form E E = true

abbrev pub is_table : Form → Bool
is_table A = false
is_table B = true
is_table E = false

abbrev pub same_bool : Bool → Bool → Bool
same_bool true b = b
same_bool false true = false
same_bool false false = true

-- an opening line
abbrev pub opens_to : Form → Piece → Result Opened Fault → Moved
opens_to f l (Err e) = refuses e
opens_to f l (Ok o) =
    reads o.common (fresh o.terms) (own_items f (message_items (l.0 + o.start) (drop o.start l.1)))
    (λ p. header o.common o.terms p 0 (message_items (l.0 + o.start) (drop o.start l.1)))

unfoldable pub begins : Setting → Form → Bool → Piece → Moved
begins S f v l = cond (readable l.1) (opens_to f l (opened S.today f v l)) (refuses (fault (Message why.Unreadable) l.0))

-- the number of a continuation is one above the last
abbrev pub follows : ℕ → Option Number → Bool
follows n None = false
follows n (Some c) = c.number == n + 1

-- a continuation of the message has its letters and the next number
unfoldable pub continues_as : Common → ℕ → Form → Bool → List ℕ → Bool
continues_as m n f v line = same_form m.form f && (same_bool m.revised v && follows n (continuation_of line))

unfoldable pub continues : Common → Standing → Reached → ℕ → List Piece → Form → Bool → Piece → Moved
continues m t p n hs f v l =
    cond (readable l.1)
    (cond (continues_as m n f v l.1)
    (reads m p (own_items m.form (continued_items l)) (λ q. header m t q (n + 1) (hs ++ continued_items l)))
    (refuses (fault (Message why.Continuation) l.0)))
    (refuses (fault (Message why.Unreadable) l.0))

-- the records of a body line have its station, and the message's source
abbrev pub of_station : Common → List ℕ → Common
of_station m name = record { form = m.form; revised = m.revised; zone = m.zone; station = name; source = Some m.station }

abbrev pub line_of : Common → Standing → List Piece → Piece → Result (List ℕ × ℕ) Fault → Moved
line_of m t hs l (Err e) = refuses e
line_of m t hs l (Ok n) = reads (of_station m n.0) (fresh t) (from_header (filled hs) (body_items (l.0 + n.1) (drop n.1 l.1))) (λ _. body m t hs)

-- a body line: a blank one is passed over; any other starts from the terms of the opening
unfoldable pub body_line : Common → Standing → List Piece → Piece → Moved
body_line m t hs l =
    cond (readable l.1)
    (cond (is_blank l.1) (onto (body m t hs)) (line_of m t hs l (field why.Station station_of l 0)))
    (refuses (fault (Message why.Unreadable) l.0))

-- in the body of a table: .END closes it, and no other line may have a first dot
abbrev pub in_body : Common → Standing → List Piece → Piece → LineKind → Moved
in_body m t hs l (Opening f v) = refuses (fault (Message why.Unfinished) l.0)
in_body m t hs l (Continuation f v) = refuses (fault (Message why.Unfinished) l.0)
in_body m t hs l End = onto outside
in_body m t hs l Dotted = refuses (fault (Message why.Unfinished) l.0)
in_body m t hs l Other = body_line m t hs l

-- behind the header: a table's body begins, and any other message has ended
abbrev pub behind : Common → Standing → List Piece → Piece → LineKind → Moved
behind m t hs l k = cond (is_table m.form) (in_body m t hs l k) (onto outside)

-- in a header: a continuation goes on, and any other line leaves it
abbrev pub in_header : Common → Standing → Reached → ℕ → List Piece → Piece → LineKind → Moved
in_header m t p n hs l (Opening f v) = behind m t hs l (Opening f v)
in_header m t p n hs l (Continuation f v) = continues m t p n hs f v l
in_header m t p n hs l End = behind m t hs l End
in_header m t p n hs l Dotted = behind m t hs l Dotted
in_header m t p n hs l Other = behind m t hs l Other

-- outside messages only a continuation is refused
abbrev pub pass_over : Piece → LineKind → Moved
pass_over l (Opening f v) = onto outside
pass_over l (Continuation f v) = refuses (fault (Message why.Continuation) l.0)
pass_over l End = onto outside
pass_over l Dotted = onto outside
pass_over l Other = onto outside

-- a line that is no opening
abbrev pub in_stage : Stage → Piece → LineKind → Moved
in_stage outside l k = pass_over l k
in_stage skipping l k = onto skipping
in_stage (header m t p n hs) l k = in_header m t p n hs l k
in_stage (body m t hs) l k = in_body m t hs l k

-- an opening begins a message whatever the stage, and any other line acts by the stage and its kind
abbrev pub by_kind : Setting → Stage → Piece → LineKind → Moved
by_kind S σ l (Opening f v) = begins S f v l
by_kind S σ l (Continuation f v) = in_stage σ l (Continuation f v)
by_kind S σ l End = in_stage σ l End
by_kind S σ l Dotted = in_stage σ l Dotted
by_kind S σ l Other = in_stage σ l Other

abbrev pub next : Setting → Stage → Piece → Moved
next S σ l = by_kind S σ l (kind_of l.1)

-- what a line comes to, and what follows from the stage that it leads to
abbrev pub came : Setting → Moved → (Stage → List Event) → List Event
came S (onto σ) k = k σ
came S (reads m p parts then) k = follow S m p parts (λ q. k (then q))
came S (refuses f) k = refused f.refusal f.place ∷ []

-- a table that is still open where its stretch ends is refused there
abbrev pub closing : Stage → ℕ → List Event
closing outside e = []
closing skipping e = []
closing (header m t p n hs) e = cond (is_table m.form) (refused (Message why.Unfinished) e ∷ []) []
closing (body m t hs) e = refused (Message why.Unfinished) e ∷ []

-- what lines without an opening come to from a stage on, up to the place e where they end
abbrev pub within : Setting → ℕ → Stage → List Piece → List Event
within S e σ [] = closing σ e
within S e σ (l ∷ ls) = came S (next S σ l) (λ τ. within S e τ ls)
