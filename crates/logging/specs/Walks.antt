-- From which item each record and each refusal comes, and what the records of a message have in common.
use Rattle.std.specs.Prelude.{◌≡◌, ℕ, zero, suc, Bool, List, [], ◌∷◌, ◌++◌, map, length, replicate, Ok, Option}
use Rattle.std.specs.List.{AllByRecursion}
use Rattle.merging.specs.Merging.{Sided}
use Rattle.reader.specs.declared.kind.Form.{Form}
use Rattle.reader.specs.declared.kind.Form.TheVariants.{A, B, E}
use Rattle.record.specs.Entries.{Entry}
use Rattle.record.specs.declared.series.Series.{Series}
use Rattle.record.specs.declared.series.Series.TheVariants.{Single, Later}
use Rattle.refusals.specs.declared.Fault.{Fault}
use Rattle.refusals.specs.declared.ItemRefusal.{ItemRefusal}
use Rattle.refusals.specs.declared.Refusal.TheVariants.{Item}
use Rattle.events.specs.Events.{Event, fault, records}
use Rattle.events.specs.Room.{refusals}
use Rattle.daylight.specs.Settings.{Setting}
use Rattle.messages.specs.Carrying.{Shares, RecordOf}
use Rattle.messages.specs.Models.{Common, Reached}
use Rattle.messages.specs.Refusing.{Coded, Lowest}
use Rattle.messages.specs.Turns.{mark_of_step, turn}
use Rattle.logging.specs.Follow.{place_of, follow}

-- items of which none is refused bring a message so far
abbrev pub Brings : Setting → Common → Reached → List Sided → Reached → Type 0
Brings S m p [] q = p ≡ q
Brings S m p (x ∷ xs) q = (t : Reached × Option Entry) × ((turn S m p x ≡ Ok t) × Brings S m t.0 xs q)

-- one of the items, and how far those before it have brought the message
pub record Met (S : Setting) (m : Common) (p : Reached) (xs : List Sided) : Type 0 where
  pub before : List Sided
  pub item : Sided
  pub behind : List Sided
  pub parts : xs ≡ before ++ item ∷ behind
  pub at : Reached
  pub brought : Brings S m p before at

-- a record is that of one of the items
abbrev pub Recorded : Setting → Common → Reached → List Sided → Entry → Type 0
Recorded S m p xs e = (x : Met S m p xs) × RecordOf S m x.at x.item e

-- a refusal stands at one of the items, and is the lowest that applies to it
abbrev pub RefusedAt : Setting → Common → Reached → List Sided → Fault → Type 0
RefusedAt S m p xs f = (x : Met S m p xs) × ((r : ItemRefusal) × ((f ≡ fault (Item r) (place_of x.item)) × Lowest S m x.at x.item r))

-- the marks of so many records: in .E the first of a message begins a series, and each later one goes on with it
abbrev pub series_marks : Bool → ℕ → List Series
series_marks begun zero = []
series_marks begun (suc n) = mark_of_step begun ∷ replicate n Later

abbrev pub marks_in : Form → Bool → ℕ → List Series
marks_in A begun n = replicate n Single
marks_in B begun n = replicate n Single
marks_in E begun n = series_marks begun n

abbrev pub marks_of : List Event → List Series
marks_of es = map (λ e. e.series) (records es)

-- what items come to by themselves
abbrev pub comes : Setting → Common → Reached → List Sided → List Event
comes S m p xs = follow S m p xs (λ _. [])

pub record ItemsCarry : Type 0 where
  -- each record is that of one of the items, as far as those before it have brought the message
  pub recorded : (S : Setting) (m : Common) (p : Reached) (xs : List Sided) → AllByRecursion (Recorded S m p xs) (records (comes S m p xs))
  -- all have the station, the source and the revision of the message
  pub shared : (S : Setting) (m : Common) (p : Reached) (xs : List Sided) → AllByRecursion (Shares m) (records (comes S m p xs))
  -- and their marks are those of a series, or none
  pub marked : (S : Setting) (m : Common) (p : Reached) (xs : List Sided) → marks_of (comes S m p xs) ≡ marks_in m.form p.begun (length (records (comes S m p xs)))
  -- and an item that is refused is refused by the lowest number that applies
  pub refused : (S : Setting) (m : Common) (p : Reached) (xs : List Sided) → Coded p → AllByRecursion (RefusedAt S m p xs) (refusals (comes S m p xs))
