-- Laws of what an item does.
use Rattle.std.specs.Prelude.{◌≡◌, ℕ, List, Some, None, Ok, Err, Option}
use Rattle.merging.specs.Merging.{Sided}
use Rattle.quantity.specs.declared.units.Units.TheVariants.{English}
use Rattle.record.specs.Entries.{Entry}
use Rattle.refusals.specs.declared.ItemRefusal.{ItemRefusal}
use Rattle.terms.specs.Standing.{Standing}
use Rattle.daylight.specs.Settings.{Setting}
use Rattle.messages.specs.Models.{Common, Reached, fresh, reached}
use Rattle.messages.specs.Refusing.{Applies, Coded, Lowest, Outgrown}
use Rattle.messages.specs.Carrying.{begun_after, RecordOf}
use Rattle.messages.specs.Roles.{item_asked}
use Rattle.messages.specs.Turns.{turn}
use Rattle.messages.specs.declared.message.Progress.{Progress}

pub record ItemRefusals : Type 0 where
  -- an item is refused by a refusal that applies to it, the lowest of them
  pub lowest : (S : Setting) (m : Common) (p : Reached) (x : Sided) (r : ItemRefusal) → Coded p → turn S m p x ≡ Err r → Lowest S m p x r
  -- and it is refused wherever one applies
  pub refused : (S : Setting) (m : Common) (p : Reached) (x : Sided) (r : ItemRefusal) → Coded p → Applies S m p x r → (k : ItemRefusal) × (turn S m p x ≡ Err k)
  -- 11 applies to converted values alone: in English units no number is too large
  pub english : (code text : List ℕ) → Outgrown code English text → ⊥
  -- the code that waits in a message is always a full one
  pub held : (p : Progress) → Coded (reached p)
  pub opens : (t : Standing) → Coded (fresh t)
  pub keeps : (S : Setting) (m : Common) (p q : Reached) (x : Sided) (o : Option Entry) → Coded p → turn S m p x ≡ Ok (q, o) → Coded q

pub record ItemRecords : Type 0 where
  -- what the record of an item carries
  pub gives : (S : Setting) (m : Common) (p q : Reached) (x : Sided) (e : Entry) → turn S m p x ≡ Ok (q, Some e) → RecordOf S m p x e
  -- an item that is not refused and gives no record gives no value
  pub silent : (S : Setting) (m : Common) (p q : Reached) (x : Sided) → turn S m p x ≡ Ok (q, None) → item_asked m p x ≡ None
  -- whether a series has begun
  pub begun : (S : Setting) (m : Common) (p q : Reached) (x : Sided) (o : Option Entry) → turn S m p x ≡ Ok (q, o) → q.begun ≡ begun_after m.form p.begun o
