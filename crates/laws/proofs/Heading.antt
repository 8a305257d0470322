-- A body line is never refused for the sake of its header.
use Rattle.std.proofs.Common.{◌≡◌, ℕ, ◌+◌, ◌≤◌, Bool, true, false, cond, eqb, List, [], ◌∷◌, ◌++◌, map, length, take, drop, is_some, Some, None, Ok, Err, Option, Result, sym, refl, ◌∙◌, inl, inr, arith}
use Rattle.std.specs.Option.{option_map, ok_or}
use Rattle.std.specs.List.{AllByRecursion}
use Rattle.std.proofs.ByRecursion.{All-append, All-weaker}
use Rattle.std.proofs.lemmas.Bool.{true≢false}
use Rattle.items.specs.Items.{trimmed, pieces, body_items, is_blank}
use Rattle.items.specs.Marks.{after, body_len, is_slash, mark_of, marks}
use Rattle.items.specs.Words.{first_word}
use Rattle.items.specs.declared.mark.Run.TheVariants.{Blanks}
use Rattle.merging.specs.Merging.{Sided, of_line, is_d, filled, answered, from_header}
use Rattle.reader.specs.Kinds.{readable}
use Rattle.reader.specs.Lines.{Piece}
use Rattle.reader.specs.declared.kind.Form.TheVariants.{B}
use Rattle.record.specs.Entries.{Entry}
use Rattle.record.specs.Stations.{station_of}
use Rattle.refusals.specs.declared.Fault.{Fault}
use Rattle.refusals.specs.declared.ItemRefusal.{ItemRefusal}
use Rattle.refusals.specs.declared.ItemRefusal.TheVariants.{DItem}
use Rattle.refusals.specs.declared.MessageRefusal.TheVariants as why
use Rattle.refusals.specs.declared.Refusal.TheVariants.{Message}
use Rattle.terms.specs.declared.stage.Stage.TheVariants.{Free}
use Rattle.terms.specs.Items.{after_item}
use Rattle.terms.specs.Standing.{Standing}
use Rattle.events.specs.Events.{Event, fault}
use Rattle.events.specs.Room.{refusals}
use Rattle.daylight.specs.Settings.{Setting}
use Rattle.messages.specs.Models.{Common, Reached, fresh}
use Rattle.messages.specs.Turns.{Turned, silent, is_empty, with_terms, with_code, d_item, code_read, item_of_header, turn}
use Rattle.messages.specs.Ways.{then_ok}
use Rattle.logging.specs.Follow.{logs, turn_then, follow}
use Rattle.logging.specs.Own.{own_items}
use Rattle.openings.specs.Openings.{placed_word, word_at, field}
use Rattle.stages.specs.Stages.{onto, refuses, body, of_station, line_of, body_line, came}
use Rattle.laws.specs.Headings.{HeaderRead, StandsAt, HeadersHold}
use Rattle.laws.specs.Tables.{body_events}
use Rattle.laws.proofs.Runs.{not_none}
use Rattle.laws.proofs.Steady.{item_alike}

abbrev good : {X Y : Type 0} → Result X Y → Bool
good (Ok x) = true
good (Err r) = false

-- a header's item is good or not, whatever the message has come to
good_some : (o : Option Standing) (r : ItemRefusal) (f : Standing → Reached) → good (then_ok (ok_or o r) (λ t. silent (f t))) ≡ is_some o
good_some None r f = refl
good_some (Some t) r f = refl

good_code : (r : Result (List ℕ) ItemRefusal) (f g : List ℕ → Reached) → good (then_ok r (λ c. silent (f c))) ≡ good (then_ok r (λ c. silent (g c)))
good_code (Ok c) f g = refl
good_code (Err r) f g = refl

module _ (S : Setting) (m : Common) (name : List ℕ) where
  d_alike : (item : List ℕ) (p q : Reached) → good (d_item S m p Free item) ≡ good (d_item S (of_station m name) q Free item)
  unfolding d_item
  d_alike item p q =
      let after : Standing → Option Standing = after_item S.today S.daylight m.zone Free item in
      good_some (after p.terms) DItem (with_terms p) ∙ item_alike S.today S.daylight m.zone item p.terms q.terms ∙ sym (good_some (after q.terms) DItem (with_terms q))

  header_alike : (item : List ℕ) (p q : Reached) → good (item_of_header S m p item) ≡ good (item_of_header S (of_station m name) q item)
  unfolding item_of_header
  header_alike item p q =
      let c : Reached → Turned = λ x. then_ok (code_read item) (λ code. silent (with_code x (Some code))) in
      let d : Common → Reached → Turned = λ n x. d_item S n x Free item in
      elim (is_empty item) as (λ b. good (cond b (silent p) (cond (is_d item) (d m p) (c p))) ≡ good (cond b (silent q) (cond (is_d item) (d (of_station m name) q) (c q)))) [
        | true ↦ refl
        | false ↦ elim (is_d item) as (λ b. good (cond b (d m p) (c p)) ≡ good (cond b (d (of_station m name) q) (c q))) [
          | true ↦ d_alike item p q
          | false ↦ good_code (code_read item) (λ code. with_code p (Some code)) (λ code. with_code q (Some code))
        ]
      ]

logs-none : (place : ℕ) (o : Option Entry) (es : List Event) → refusals (logs place o es) ≡ refusals es
logs-none place None es = refl
logs-none place (Some e) es = refl

turn_read : (place : ℕ) (r : Turned) (k : Reached → List Event) → refusals (turn_then place r k) ≡ [] → (good r ≡ true) × ((q : Reached) × (refusals (k q) ≡ []))
turn_read place (Err r) k none = absurd (not_none none)
turn_read place (Ok t) k none = (refl, (t.0, sym (logs-none place t.1 (k t.0)) ∙ none))

-- faults at places of which P holds
module _ (P : ℕ → Type 0) where
  abbrev Fine : List Event → Type 0
  Fine es = AllByRecursion (λ f. P f.place) (refusals es)

  logs_fine : (place : ℕ) (o : Option Entry) (es : List Event) → Fine es → Fine (logs place o es)
  logs_fine place None es h = h
  logs_fine place (Some e) es h = h

  turn_fine : (place : ℕ) (r : Turned) (k : Reached → List Event) → P place → ((q : Reached) → Fine (k q)) → Fine (turn_then place r k)
  turn_fine place (Err r) k h n = (h, tt)
  turn_fine place (Ok t) k h n = logs_fine place t.1 (k t.0) (n t.0)

  good_fine : (place : ℕ) (r : Turned) (k : Reached → List Event) → good r ≡ true → ((q : Reached) → Fine (k q)) → Fine (turn_then place r k)
  good_fine place (Err r) k h n = absurd (true≢false (sym h))
  good_fine place (Ok t) k h n = logs_fine place t.1 (k t.0) (n t.0)

module _ (S : Setting) (m : Common) (name : List ℕ) where
  -- a header's item that is good wherever it is met on a body line
  abbrev Good : Piece → Type 0
  Good h = (p : Reached) → good (item_of_header S (of_station m name) p h.1) ≡ true

  all_good : (hs : List Piece) (p : Reached) → refusals (follow S m p (own_items B hs) (λ _. [])) ≡ [] → AllByRecursion Good hs
  all_good [] p none = tt
  all_good (h ∷ hs) p none =
      let r = turn_read h.0 (item_of_header S m p h.1) (λ q. follow S m q (own_items B hs) (λ _. [])) none in
      ((λ q. sym (header_alike S m name h.1 p q) ∙ r.0), all_good hs r.1.0 r.1.1)

  filled_good : (hs : List Piece) → AllByRecursion Good hs → AllByRecursion Good (filled hs)
  filled_good [] all = tt
  filled_good (h ∷ hs) all =
      elim (eqb (length h.1) 0) as (λ b. AllByRecursion Good (cond b (filled hs) (h ∷ filled hs))) [ true ↦ filled_good hs all.1 | false ↦ (all.0, filled_good hs all.1) ]

  module _ (P : ℕ → Type 0) (k : Reached → List Event) (then : (q : Reached) → Fine P (k q)) where
    abbrev Own : List Piece → Type 0
    Own ls = AllByRecursion (λ q. P q.0) ls

    abbrev Comes : Reached → List Sided → Type 0
    Comes p xs = Fine P (follow S (of_station m name) p xs k)

    line_fine : (ls : List Piece) (p : Reached) → Own ls → Comes p (map of_line ls)
    line_fine [] p own = then p
    line_fine (l ∷ ls) p own =
        turn_fine P l.0 (turn S (of_station m name) p (of_line l)) (λ q. follow S (of_station m name) q (map of_line ls) k) own.0 (λ q. line_fine ls q own.1)

    answered_fine : (next : List Piece → List Sided) → ((ls : List Piece) (p : Reached) → Own ls → Comes p (next ls)) → (ls : List Piece) (p : Reached) → Own ls → Comes p (answered next ls)
    answered_fine next n [] p own = then p
    answered_fine next n (l ∷ ls) p own =
        let rest : Bool → List Sided = λ b. cond b (answered next ls) (next ls) in
        turn_fine P l.0 (turn S (of_station m name) p (of_line l)) (λ q. follow S (of_station m name) q (rest (is_d l.1)) k) own.0
        (λ q. elim (is_d l.1) as (λ b. Comes q (rest b)) [ true ↦ answered_fine next n ls q own.1 | false ↦ n ls q own.1 ])

    merged_fine : (hs : List Piece) → AllByRecursion Good hs → (ls : List Piece) (p : Reached) → Own ls → Comes p (from_header hs ls)
    merged_fine [] all ls p own = line_fine ls p own
    merged_fine (h ∷ hs) all ls p own =
        let rest : Bool → List Sided = λ b. cond b (from_header hs ls) (answered (from_header hs) ls) in
        good_fine P h.0 (item_of_header S (of_station m name) p h.1) (λ q. follow S (of_station m name) q (rest (is_d h.1)) k) (all.0 p)
        (λ q. elim (is_d h.1) as (λ b. Comes q (rest b)) [ true ↦ merged_fine hs all.1 ls q own | false ↦ answered_fine (from_header hs) (merged_fine hs all.1) ls q own ])

    body_fine : (t : Standing) (hs ls : List Piece) → HeaderRead S m t hs → Own ls → Comes (fresh t) (from_header (filled hs) ls)
    body_fine t hs ls read own = merged_fine (filled hs) (filled_good hs (all_good hs (fresh t) read)) ls (fresh t) own

-- a header of several lines
good_none : (place : ℕ) (r : Turned) (k : Reached → List Event) → good r ≡ true → ((q : Reached) → refusals (k q) ≡ []) → refusals (turn_then place r k) ≡ []
good_none place (Err r) k h n = absurd (true≢false (sym h))
good_none place (Ok t) k h n = logs-none place t.1 (k t.0) ∙ n t.0

module _ (S : Setting) (m : Common) where
  -- of what the records have in common a header's item asks the zone alone
  of_zone : (p : Reached) (item : List ℕ) → good (item_of_header S (of_station m []) p item) ≡ good (item_of_header S m p item)
  unfolding item_of_header d_item
  of_zone p item = refl

  read_all : (hs : List Piece) (p : Reached) → AllByRecursion (Good S m []) hs → refusals (follow S m p (own_items B hs) (λ _. [])) ≡ []
  read_all [] p all = refl
  read_all (h ∷ hs) p all =
      good_none h.0 (item_of_header S m p h.1) (λ q. follow S m q (own_items B hs) (λ _. [])) (sym (of_zone p h.1) ∙ all.0 p) (λ q. read_all hs q all.1)

  header_holds : (t : Standing) (p : Reached) (hs qs : List Piece) → HeaderRead S m t hs → refusals (follow S m p (own_items B qs) (λ _. [])) ≡ [] → HeaderRead S m t (hs ++ qs)
  header_holds t p hs qs read more = read_all (hs ++ qs) (fresh t) (All-append (Good S m []) hs qs (all_good S m [] hs (fresh t) read) (all_good S m [] qs p more))

stands : (ls : List Piece) → AllByRecursion (λ q. StandsAt ls q.0) ls
stands [] = tt
stands (l ∷ ls) = (inl refl, All-weaker (λ (q : Piece). StandsAt ls q.0) (λ (q : Piece). StandsAt (l ∷ ls) q.0) (λ q h. inr h) ls (stands ls))

line_holds : (S : Setting) (m : Common) (t : Standing) (hs ls : List Piece) (name : List ℕ)
    → HeaderRead S m t hs → AllByRecursion (λ f. StandsAt ls f.place) (refusals (follow S (of_station m name) (fresh t) (from_header (filled hs) ls) (λ _. [])))
line_holds S m t hs ls name read = body_fine S m name (StandsAt ls) (λ _. []) (λ q. tt) t hs ls read (stands ls)

-- the items of a stretch stand in it
module _ (low : ℕ) where
  abbrev Behind : List Piece → Type 0
  Behind qs = AllByRecursion (λ q. low ≤ q.0) qs

  pieces-behind : (bs : List ℕ) (start : ℕ) (part : List ℕ) (inside : Bool) → low ≤ start → Behind (pieces start part inside bs)
  pieces-behind [] start part inside h = (h, tt)
  pieces-behind (b ∷ bs) start part inside h =
      elim (is_slash (mark_of inside b)) as (λ v. Behind (cond v ((start, part) ∷ pieces (start + length part + 1) [] (after inside b) bs) (pieces start (part ++ b ∷ []) (after inside b) bs))) [
        | true ↦ (h, pieces-behind bs (start + length part + 1) [] (after inside b) (omega arith))
        | false ↦ pieces-behind bs start (part ++ b ∷ []) (after inside b) h
      ]

  trimmed-behind : (qs : List Piece) → Behind qs → Behind (map (trimmed Blanks) qs)
  trimmed-behind [] h = tt
  trimmed-behind (q ∷ qs) h = let here = h.0 in (omega arith, trimmed-behind qs h.1)

  items_behind : (place : ℕ) (bs : List ℕ) → low ≤ place → Behind (body_items place bs)
  items_behind place bs h =
      let part = take (body_len (marks false bs)) bs in
      elim (is_blank part) as (λ v. Behind (cond v [] (map (trimmed Blanks) (pieces place [] false part)))) [ true ↦ tt | false ↦ trimmed-behind (pieces place [] false part) (pieces-behind part place [] false h) ]

-- a body line
abbrev Stands : {X : Type 0} → ℕ → Result X Fault → Type 0
Stands low (Ok x) = Unit {0}
Stands low (Err f) = low ≤ f.place

module _ (l : Piece) where
  ok_or_stands : {X : Type 0} (o : Option X) (f : Fault) → l.0 ≤ f.place → Stands l.0 (ok_or o f)
  ok_or_stands None f h = h
  ok_or_stands (Some x) f h = tt

  word_stands : (o : Option (ℕ × (List ℕ × List ℕ)))
      → Stands {X = List ℕ × ℕ} l.0 (then_ok (placed_word why.Station l 0 o) (λ w. ok_or (option_map (λ x. (x, w.1.1)) (station_of w.0)) (fault (Message why.Station) (l.0 + w.1.0))))
  word_stands None = omega arith
  word_stands (Some w) = ok_or_stands (option_map {U = List ℕ × ℕ} (λ x. (x, 0 + w.0 + length w.1.0)) (station_of w.1.0)) (fault (Message why.Station) (l.0 + (0 + w.0))) (omega arith)

  station_stands : Stands l.0 (field why.Station station_of l 0)
  unfolding field word_at
  station_stands = word_stands (first_word (drop 0 l.1))

module _ (S : Setting) (m : Common) (t : Standing) (hs : List Piece) (l : Piece) (read : HeaderRead S m t hs) where
  abbrev Within : List Event → Type 0
  Within es = Fine (λ place. l.0 ≤ place) es

  named_within : (r : Result (List ℕ × ℕ) Fault) → Stands l.0 r → Within (came S (line_of m t hs l r) (λ _. []))
  named_within (Err f) h = (h, tt)
  named_within (Ok n) h =
      body_fine S m n.0 (λ place. l.0 ≤ place) (λ _. []) (λ q. tt) t hs (body_items (l.0 + n.1) (drop n.1 l.1)) read
      (items_behind l.0 (l.0 + n.1) (drop n.1 l.1) (omega arith))

  body_holds : Within (body_events S m t hs l)
  unfolding body_line
  body_holds =
      let bad = refuses (fault (Message why.Unreadable) l.0) in
      let named = line_of m t hs l (field why.Station station_of l 0) in
      elim (readable l.1) as (λ b. Within (came S (cond b (cond (is_blank l.1) (onto (body m t hs)) named) bad) (λ _. []))) [
        | true ↦ elim (is_blank l.1) as (λ b. Within (came S (cond b (onto (body m t hs)) named) (λ _. []))) [ true ↦ tt | false ↦ named_within (field why.Station station_of l 0) (station_stands l) ]
        | false ↦ (omega arith, tt)
      ]

pub headers_hold : HeadersHold
headers_hold = record { item = item_alike; header = header_holds; line = line_holds; body = body_holds }
