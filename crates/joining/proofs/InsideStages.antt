-- What lines come to stands where they do. Assumes nothing.
use Rattle.std.proofs.Common.{ℕ, ◌+◌, ◌≤◌, Bool, true, false, cond, eqb, List, [], ◌∷◌, ◌++◌, length, drop, Ok, Err, Result, arith}
use Rattle.std.specs.List.{AllByRecursion}
use Rattle.std.proofs.ByRecursion.{All-append}
use Rattle.std.proofs.lemmas.List.{length_push}
use Rattle.merging.specs.Headers.{continued_items}
use Rattle.items.specs.Items.{message_items, body_items, is_blank}
use Rattle.reader.specs.Kinds.{kind_of, readable}
use Rattle.reader.specs.Lines.{Piece, less_return, last_line, lines_from}
use Rattle.reader.specs.declared.kind.Form.{Form}
use Rattle.reader.specs.declared.kind.LineKind.{LineKind}
use Rattle.reader.specs.declared.kind.LineKind.TheVariants.{Opening, Continuation, End, Dotted, Other}
use Rattle.reader.proofs.Scan.{return_le}
use Rattle.record.specs.Stations.{station_of}
use Rattle.refusals.specs.declared.Fault.{Fault}
use Rattle.refusals.specs.declared.MessageRefusal.TheVariants as why
use Rattle.refusals.specs.declared.Refusal.TheVariants.{Message}
use Rattle.terms.specs.Standing.{Standing}
use Rattle.events.specs.Events.{Event, fault, refused}
use Rattle.daylight.specs.Settings.{Setting}
use Rattle.messages.specs.Models.{Common, Reached}
use Rattle.openings.specs.Openings.{Opened, field, opened}
use Rattle.logging.specs.Own.{own_items}
use Rattle.stages.specs.Stages.{Stage, outside, skipping, header, body, Moved, onto, reads, refuses, is_table, opens_to, begins, continues_as, continues, line_of, body_line, in_body, behind, in_header, pass_over, in_stage, by_kind, next, came, closing, within}
use Rattle.shef.specs.Texts.{is_opening, Stretch, on_front, cut, end_of, stretch, stretches}
use Rattle.joining.specs.Inside.{Inside, PlacesInside}
use Rattle.joining.proofs.InsideFields.{Within, field-within, opened-within}
use Rattle.joining.proofs.InsideItems.{message_end, body_end, continued_end, header_end, own_end}
use Rattle.joining.proofs.InsideTurns.{Ends, PartEnds, follow_inside}

-- the items that a stage keeps end at e or before
abbrev Keeps : ℕ → Stage → Type 0
Keeps e outside = Unit {0}
Keeps e skipping = Unit {0}
Keeps e (header m t p k hs) = AllByRecursion (Ends e) hs
Keeps e (body m t hs) = AllByRecursion (Ends e) hs

abbrev Moves : ℕ → Moved → Type 0
Moves e (onto σ) = Keeps e σ
Moves e (reads m p ps to) = AllByRecursion (PartEnds e) ps × ((q : Reached) → Keeps e (to q))
Moves e (refuses f) = f.place ≤ e

abbrev StretchEnds : ℕ → Stretch → Type 0
StretchEnds e s = Ends e s.0 × AllByRecursion (Ends e) s.1

module _ (e : ℕ) where
  module _ (l : Piece) (le : Ends e l) where
    opens_move : (f : Form) (r : Result Opened Fault) → Within e (λ (o : Opened). o.start ≤ length l.1) r → Moves e (opens_to f l r)
    opens_move f (Err x) w = w
    opens_move f (Ok o) w = let items = message_end e l le o.start w in (own_end e f (message_items (l.0 + o.start) (drop o.start l.1)) items, λ q. items)

    begins_moves : (S : Setting) (f : Form) (v : Bool) → Moves e (begins S f v l)
    unfolding begins
    begins_moves S f v =
        elim (readable l.1) as (λ b. Moves e (cond b (opens_to f l (opened S.today f v l)) (refuses (fault (Message why.Unreadable) l.0)))) [
          | true ↦ opens_move f (opened S.today f v l) (opened-within e l le S.today f v)
          | false ↦ omega arith
        ]

    continues_moves : (m : Common) (t : Standing) (p : Reached) (k : ℕ) (hs : List Piece) (f : Form) (v : Bool) → AllByRecursion (Ends e) hs → Moves e (continues m t p k hs f v l)
    unfolding continues
    continues_moves m t p k hs f v h =
        let items = continued_end e l le in
        let going : Moves e (reads m p (own_items m.form (continued_items l)) (λ q. header m t q (k + 1) (hs ++ continued_items l))) =
        (own_end e m.form (continued_items l) items, λ q. All-append (Ends e) hs (continued_items l) h items) in
        let numbered : Moves e (cond (continues_as m k f v l.1) (reads m p (own_items m.form (continued_items l)) (λ q. header m t q (k + 1) (hs ++ continued_items l))) (refuses (fault (Message why.Continuation) l.0))) =
        elim (continues_as m k f v l.1) as (λ b. Moves e (cond b (reads m p (own_items m.form (continued_items l)) (λ q. header m t q (k + 1) (hs ++ continued_items l))) (refuses (fault (Message why.Continuation) l.0)))) [ true ↦ going | false ↦ omega arith ] in
        elim (readable l.1) as (λ b. Moves e (cond b (cond (continues_as m k f v l.1) (reads m p (own_items m.form (continued_items l)) (λ q. header m t q (k + 1) (hs ++ continued_items l))) (refuses (fault (Message why.Continuation) l.0))) (refuses (fault (Message why.Unreadable) l.0)))) [
          | true ↦ numbered
          | false ↦ omega arith
        ]

    module _ (m : Common) (t : Standing) (hs : List Piece) (h : AllByRecursion (Ends e) hs) where
      line_moves : (r : Result (List ℕ × ℕ) Fault) → Within e (λ (x : List ℕ × ℕ). x.1 ≤ length l.1) r → Moves e (line_of m t hs l r)
      line_moves (Err x) w = w
      line_moves (Ok s) w = (header_end e hs (body_items (l.0 + s.1) (drop s.1 l.1)) h (body_end e l le s.1 w), λ q. h)

      body_line_moves : Moves e (body_line m t hs l)
      unfolding body_line
      body_line_moves =
          let inked : Moves e (cond (is_blank l.1) (onto (body m t hs)) (line_of m t hs l (field why.Station station_of l 0))) =
          elim (is_blank l.1) as (λ b. Moves e (cond b (onto (body m t hs)) (line_of m t hs l (field why.Station station_of l 0)))) [ true ↦ h | false ↦ line_moves (field why.Station station_of l 0) (field-within e l le why.Station station_of 0) ] in
          elim (readable l.1) as (λ b. Moves e (cond b (cond (is_blank l.1) (onto (body m t hs)) (line_of m t hs l (field why.Station station_of l 0))) (refuses (fault (Message why.Unreadable) l.0)))) [ true ↦ inked | false ↦ omega arith ]

      in_body_moves : (k : LineKind) → Moves e (in_body m t hs l k)
      in_body_moves (Opening f v) = omega arith
      in_body_moves (Continuation f v) = omega arith
      in_body_moves End = tt
      in_body_moves Dotted = omega arith
      in_body_moves Other = body_line_moves

      behind_moves : (k : LineKind) → Moves e (behind m t hs l k)
      behind_moves k = elim (is_table m.form) as (λ b. Moves e (cond b (in_body m t hs l k) (onto outside))) [ true ↦ in_body_moves k | false ↦ tt ]

      in_header_moves : (p : Reached) (i : ℕ) (k : LineKind) → Moves e (in_header m t p i hs l k)
      in_header_moves p i (Opening f v) = behind_moves (Opening f v)
      in_header_moves p i (Continuation f v) = continues_moves m t p i hs f v h
      in_header_moves p i End = behind_moves End
      in_header_moves p i Dotted = behind_moves Dotted
      in_header_moves p i Other = behind_moves Other

    pass_moves : (k : LineKind) → Moves e (pass_over l k)
    pass_moves (Opening f v) = tt
    pass_moves (Continuation f v) = omega arith
    pass_moves End = tt
    pass_moves Dotted = tt
    pass_moves Other = tt

    stage_moves : (σ : Stage) (k : LineKind) → Keeps e σ → Moves e (in_stage σ l k)
    stage_moves outside k h = pass_moves k
    stage_moves skipping k h = tt
    stage_moves (header m t p i hs) k h = in_header_moves m t hs h p i k
    stage_moves (body m t hs) k h = in_body_moves m t hs h k

    kind_moves : (S : Setting) (σ : Stage) (k : LineKind) → Keeps e σ → Moves e (by_kind S σ l k)
    kind_moves S σ (Opening f v) h = begins_moves S f v
    kind_moves S σ (Continuation f v) h = stage_moves σ (Continuation f v) h
    kind_moves S σ End h = stage_moves σ End h
    kind_moves S σ Dotted h = stage_moves σ Dotted h
    kind_moves S σ Other h = stage_moves σ Other h

  came_inside : (S : Setting) (x : Moved) (k : Stage → List Event) → Moves e x → ((σ : Stage) → Keeps e σ → AllByRecursion (Inside e) (k σ)) → AllByRecursion (Inside e) (came S x k)
  came_inside S (onto σ) k w h = h σ w
  came_inside S (reads m p ps to) k w h = follow_inside e S m p ps (λ q. k (to q)) w.0 (λ q. h (to q) (w.1 q))
  came_inside S (refuses f) k w h = (w, tt)

  closing_inside : (σ : Stage) (d : ℕ) → d ≤ e → AllByRecursion (Inside e) (closing σ d)
  closing_inside outside d h = tt
  closing_inside skipping d h = tt
  closing_inside (header m t p i hs) d h = elim (is_table m.form) as (λ b. AllByRecursion (Inside e) (cond b (refused (Message why.Unfinished) d ∷ []) [])) [ true ↦ (h, tt) | false ↦ tt ]
  closing_inside (body m t hs) d h = (h, tt)

  within_inside : (S : Setting) (d : ℕ) → d ≤ e → (σ : Stage) (ls : List Piece) → Keeps e σ → AllByRecursion (Ends e) ls → AllByRecursion (Inside e) (within S d σ ls)
  within_inside S d le σ [] w h = closing_inside σ d le
  within_inside S d le σ (l ∷ ls) w h = came_inside S (next S σ l) (λ τ. within S d τ ls) (kind_moves l h.0 S σ (kind_of l.1) w) (λ τ g. within_inside S d le τ ls g h.1)

  cut_ends : (ls : List Piece) → AllByRecursion (Ends e) ls → AllByRecursion (Ends e) (cut ls).0 × AllByRecursion (StretchEnds e) (cut ls).1
  cut_ends [] h = (tt, tt)
  cut_ends (l ∷ ls) h =
      let rest = cut_ends ls h.1 in
      elim (is_opening (kind_of l.1)) as (λ b. AllByRecursion (Ends e) (on_front b l (cut ls)).0 × AllByRecursion (StretchEnds e) (on_front b l (cut ls)).1) [ true ↦ (tt, ((h.0, rest.0), rest.1)) | false ↦ ((h.0, rest.0), rest.1) ]

  end_inside : (ss : List Stretch) → AllByRecursion (StretchEnds e) ss → end_of e ss ≤ e
  end_inside [] h = omega arith
  end_inside (s ∷ ss) h = omega (arith, h.0.0)

  stretches_inside : (S : Setting) (ss : List Stretch) → AllByRecursion (StretchEnds e) ss → AllByRecursion (Inside e) (stretches S e ss)
  stretches_inside S [] h = tt
  stretches_inside S (s ∷ ss) h =
      All-append (Inside e) (stretch S (end_of e ss) s) (stretches S e ss)
      (came_inside S (next S outside s.0) (λ σ. within S (end_of e ss) σ s.1) (kind_moves s.0 h.0.0 S outside (kind_of s.0.1) tt) (λ σ w. within_inside S (end_of e ss) (end_inside ss h.1) σ s.1 w h.0.1))
      (stretches_inside S ss h.1)

  last_ends : (p : ℕ) (line : List ℕ) → p + length line ≤ e → AllByRecursion (Ends e) (last_line p line)
  last_ends p [] h = tt
  last_ends p (b ∷ bs) h = (h, tt)

  lines_end : (p : ℕ) (line text : List ℕ) → p + length line + length text ≤ e → AllByRecursion (Ends e) (lines_from p line text)
  lines_end p line [] h = last_ends p line (omega arith)
  lines_end p line (b ∷ bs) h =
      elim (eqb b 10) as (λ v. AllByRecursion (Ends e) (cond v ((p, less_return line) ∷ lines_from (p + length line + 1) [] bs) (lines_from p (line ++ b ∷ []) bs))) [
        | true ↦ (omega (arith, return_le line), lines_end (p + length line + 1) [] bs (omega arith))
        | false ↦ lines_end p (line ++ b ∷ []) bs (omega (arith, length_push line b))
      ]

  lines_inside : (S : Setting) (ls : List Piece) → AllByRecursion (Ends e) ls → AllByRecursion (Inside e) (within S (end_of e (cut ls).1) outside (cut ls).0 ++ stretches S e (cut ls).1)
  lines_inside S ls h =
      let c = cut_ends ls h in
      All-append (Inside e) (within S (end_of e (cut ls).1) outside (cut ls).0) (stretches S e (cut ls).1)
      (within_inside S (end_of e (cut ls).1) (end_inside (cut ls).1 c.1) outside (cut ls).0 tt c.0)
      (stretches_inside S (cut ls).1 c.1)

pub places_inside : PlacesInside
places_inside S text = lines_inside (length text) S (lines_from 0 [] text) (lines_end (length text) 0 [] text (omega arith))
