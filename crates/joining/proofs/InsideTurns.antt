-- Only an item that is not empty gives a record. Assumes nothing.
use Rattle.std.proofs.Common.{ℕ, ◌+◌, ◌<◌, ◌≤◌, List, [], ◌∷◌, length, Some, None, Ok, Err, Option, arith}
use Rattle.std.specs.List.{AllByRecursion}
use Rattle.merging.specs.Merging.{Sided, of_header, of_line}
use Rattle.reader.specs.Lines.{Piece}
use Rattle.reader.specs.declared.kind.Form.{Form}
use Rattle.reader.specs.declared.kind.Form.TheVariants.{A, B, E}
use Rattle.record.specs.Entries.{Entry}
use Rattle.events.specs.Events.{Event}
use Rattle.daylight.specs.Settings.{Setting}
use Rattle.messages.specs.Models.{Common, Reached}
use Rattle.messages.specs.Turns.{Turned, code_or_step, step_of_e, item_of_a, item_of_e, item_of_header, item_of_body, item_of_line}
use Rattle.logging.specs.Follow.{logs, turn_then, follow}
use Rattle.joining.specs.Inside.{Inside}

-- a piece ends at e or before
abbrev pub Ends : ℕ → Piece → Type 0
Ends e q = q.0 + length q.1 ≤ e

abbrev pub PartEnds : ℕ → Sided → Type 0
PartEnds e (of_header q) = Ends e q
PartEnds e (of_line q) = Ends e q

abbrev Records : List ℕ → Option Entry → Type 0
Records item None = Unit {0}
Records item (Some e) = 0 < length item

abbrev Gives : List ℕ → Turned → Type 0
Gives item (Err r) = Unit {0}
Gives item (Ok t) = Records item t.1

some-records : (b : ℕ) (bs : List ℕ) (o : Option Entry) → Records (b ∷ bs) o
some-records b bs None = tt
some-records b bs (Some e) = omega arith

some-gives : (b : ℕ) (bs : List ℕ) (t : Turned) → Gives (b ∷ bs) t
some-gives b bs (Err r) = tt
some-gives b bs (Ok t) = some-records b bs t.1

module _ (S : Setting) (m : Common) (p : Reached) where
  a_gives : (item : List ℕ) → Gives item (item_of_a S m p item)
  unfolding item_of_a
  a_gives [] = tt
  a_gives (b ∷ bs) = some-gives b bs (item_of_a S m p (b ∷ bs))

  empty_step : (c : Option (List ℕ)) → Gives [] (code_or_step S m p c [])
  unfolding step_of_e
  empty_step None = tt
  empty_step (Some code) = tt

  e_gives : (item : List ℕ) → Gives item (item_of_e S m p item)
  unfolding item_of_e
  e_gives [] = empty_step p.code
  e_gives (b ∷ bs) = some-gives b bs (item_of_e S m p (b ∷ bs))

  b_gives : (item : List ℕ) → Gives item (item_of_body S m p item)
  unfolding item_of_body
  b_gives [] = tt
  b_gives (b ∷ bs) = some-gives b bs (item_of_body S m p (b ∷ bs))

  header_gives : (item : List ℕ) → Gives item (item_of_header S m p item)
  unfolding item_of_header
  header_gives [] = tt
  header_gives (b ∷ bs) = some-gives b bs (item_of_header S m p (b ∷ bs))

  line_gives : (f : Form) (item : List ℕ) → Gives item (item_of_line f S m p item)
  line_gives A item = a_gives item
  line_gives B item = b_gives item
  line_gives E item = e_gives item

module _ (e : ℕ) where
  logs_inside : (q : Piece) (o : Option Entry) (es : List Event) → Ends e q → Records q.1 o → AllByRecursion (Inside e) es → AllByRecursion (Inside e) (logs q.0 o es)
  logs_inside q None es le g h = h
  logs_inside q (Some x) es le g h = (omega arith, h)

  turn_inside : (q : Piece) (t : Turned) (k : Reached → List Event) → Ends e q → Gives q.1 t → ((r : Reached) → AllByRecursion (Inside e) (k r)) → AllByRecursion (Inside e) (turn_then q.0 t k)
  turn_inside q (Err r) k le g h = (omega arith, tt)
  turn_inside q (Ok t) k le g h = logs_inside q t.1 (k t.0) le g (h t.0)

  pub follow_inside : (S : Setting) (m : Common) (p : Reached) (xs : List Sided) (k : Reached → List Event) → AllByRecursion (PartEnds e) xs → ((r : Reached) → AllByRecursion (Inside e) (k r)) → AllByRecursion (Inside e) (follow S m p xs k)
  follow_inside S m p [] k les h = h p
  follow_inside S m p (of_header q ∷ xs) k les h = turn_inside q (item_of_header S m p q.1) (λ r. follow S m r xs k) les.0 (header_gives S m p q.1) (λ r. follow_inside S m r xs k les.1 h)
  follow_inside S m p (of_line q ∷ xs) k les h = turn_inside q (item_of_line m.form S m p q.1) (λ r. follow S m r xs k) les.0 (line_gives S m p m.form q.1) (λ r. follow_inside S m r xs k les.1 h)
