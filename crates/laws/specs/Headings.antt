-- The items of a table's header, read again on each body line: a body line is never refused for their sake.
use Rattle.std.specs.Prelude.{◌≡◌, ℕ, ◌≤◌, Bool, ◌⊎◌, List, [], ◌∷◌, ◌++◌, is_some}
use Rattle.std.specs.List.{AllByRecursion}
use Rattle.calendar.specs.declared.date.Date.{Date}
use Rattle.daylight.specs.declared.zone.Zone.{Zone}
use Rattle.merging.specs.Merging.{filled, from_header}
use Rattle.reader.specs.Lines.{Piece}
use Rattle.reader.specs.declared.kind.Form.TheVariants.{B}
use Rattle.terms.specs.declared.stage.Stage.TheVariants.{Free}
use Rattle.terms.specs.Items.{after_item}
use Rattle.terms.specs.Standing.{Standing}
use Rattle.events.specs.Room.{refusals}
use Rattle.daylight.specs.Settings.{Setting}
use Rattle.messages.specs.Models.{Common, Reached, fresh}
use Rattle.logging.specs.Follow.{follow}
use Rattle.logging.specs.Own.{own_items}
use Rattle.stages.specs.Stages.{of_station}
use Rattle.laws.specs.Tables.{body_events}

-- nothing was refused when the header was read
abbrev pub HeaderRead : Setting → Common → Standing → List Piece → Type 0
HeaderRead S m t hs = refusals (follow S m (fresh t) (own_items B hs) (λ _. [])) ≡ []

-- one of the items stands at the place
abbrev pub StandsAt : List Piece → ℕ → Type 0
StandsAt [] place = ⊥
StandsAt (q ∷ qs) place = (place ≡ q.0) ⊎ StandsAt qs place

pub record HeadersHold : Type 0 where
  -- whether a D item is good does not depend on the terms it meets
  pub item : (today : Date) (daylight : Date × ℕ → Bool) (zone : Zone) (item : List ℕ) (s t : Standing)
      → is_some (after_item today daylight zone Free item s) ≡ is_some (after_item today daylight zone Free item t)
  -- so a header is read where each of its lines is, however far the message has come
  pub header : (S : Setting) (m : Common) (t : Standing) (p : Reached) (hs qs : List Piece)
      → HeaderRead S m t hs → refusals (follow S m p (own_items B qs) (λ _. [])) ≡ [] → HeaderRead S m t (hs ++ qs)
  -- and the items of a body line, merged with those of a header that was read, are refused only where one of the line's own stands
  pub line : (S : Setting) (m : Common) (t : Standing) (hs ls : List Piece) (name : List ℕ)
      → HeaderRead S m t hs → AllByRecursion (λ f. StandsAt ls f.place) (refusals (follow S (of_station m name) (fresh t) (from_header (filled hs) ls) (λ _. [])))
  -- no fault of a body line stands before the line
  pub body : (S : Setting) (m : Common) (t : Standing) (hs : List Piece) (l : Piece)
      → HeaderRead S m t hs → AllByRecursion (λ f. l.0 ≤ f.place) (refusals (body_events S m t hs l))
