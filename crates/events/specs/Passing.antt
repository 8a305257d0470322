-- How a reader gets through events: it logs some records, and what is left is to come or is where it stops.
use Rattle.std.specs.Prelude.{◌≡◌, ℕ, ◌≤◌, List, [], ◌∷◌, ◌++◌, length, Ok, Err, Result}
use Rattle.record.specs.Entries.{Entry}
use Rattle.refusals.specs.declared.Fault.{Fault}
use Rattle.refusals.specs.declared.Refusal.{Refusal}
use Rattle.refusals.specs.declared.Refusal.TheVariants.{CurrentDate, Message, Item, NoRoom}
use Rattle.sink.specs.Logs.{Log, put_all}
use Rattle.events.specs.Events.{Event, logged, refused}

-- records at their places
abbrev pub logged_all : List (ℕ × Entry) → List Event
logged_all [] = []
logged_all (x ∷ xs) = logged x.0 x.1 ∷ logged_all xs

abbrev pub entries_of : List (ℕ × Entry) → List Entry
entries_of [] = []
entries_of (x ∷ xs) = x.1 ∷ entries_of xs

-- of the events `whole`, some first records went into the log l, which is then m, and `rest` is left;
-- what comes behind is any k
pub record Passed {K : Type 0} (l m : Log Entry) (whole rest : K → List Event) : Type 0 where
  pub some : List (ℕ × Entry)
  pub fits : length some ≤ l.room
  pub put : m ≡ put_all l (entries_of some)
  pub is : (k : K) → whole k ≡ logged_all some ++ rest k

-- a record stands next, and there is no room for it
pub record Full {K : Type 0} (m : Log Entry) (place : ℕ) (rest : K → List Event) : Type 0 where
  pub none : m.room ≡ 0
  pub next : Entry
  pub tail : K → List Event
  pub is : (k : K) → rest k ≡ logged place next ∷ tail k

-- where a reader stops: at a record without room, or at a refusal, which is the last event
abbrev pub StopsAt : {K : Type 0} → Refusal → ℕ → Log Entry → (K → List Event) → Type 0
StopsAt {K} CurrentDate p m rest = (k : K) → rest k ≡ refused CurrentDate p ∷ []
StopsAt {K} (Message r) p m rest = (k : K) → rest k ≡ refused (Message r) p ∷ []
StopsAt {K} (Item r) p m rest = (k : K) → rest k ≡ refused (Item r) p ∷ []
StopsAt {K} NoRoom p m rest = Full m p rest

pub record Stopped {K : Type 0} (f : Fault) (l m : Log Entry) (whole : K → List Event) : Type 0 where
  pub rest : K → List Event
  pub passed : Passed l m whole rest
  pub stops : StopsAt f.refusal f.place m rest

-- how a reader comes out of events: past them, at a result, or stopped by a fault
abbrev pub Comes : {K Q : Type 0} → Result Q Fault → Log Entry → Log Entry → (K → List Event) → (Q → K → List Event) → Type 0
Comes (Ok q) l m whole rest = Passed l m whole (rest q)
Comes (Err f) l m whole rest = Stopped f l m whole
