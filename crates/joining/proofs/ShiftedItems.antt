-- The items of a line, and what they come to, wherever the line stands. Assumes nothing.
use Rattle.std.proofs.Common.{◌≡◌, ℕ, ◌+◌, Bool, true, false, cond, eqb, List, [], ◌∷◌, ◌++◌, map, length, take, drop, Some, None, Ok, Err, Option, refl, ap, ◌∙◌, add_assoc, arith}
use Rattle.std.specs.List.{prefix_len}
use Rattle.items.specs.declared.mark.Run.{Run}
use Rattle.items.specs.declared.mark.Run.TheVariants.{Blanks, Loose}
use Rattle.merging.specs.Headers.{behind_number, continued_items}
use Rattle.items.specs.Items.{trimmed, pieces, cut_items, message_items, is_blank, body_items}
use Rattle.items.specs.Marks.{after, body_len, core, is_slash, mark_of, marks, passes}
use Rattle.merging.specs.Merging.{Sided, of_header, of_line, is_d, filled, answered, from_header}
use Rattle.reader.specs.Kinds.{continuation_of}
use Rattle.reader.specs.Lines.{Piece, shifted}
use Rattle.reader.specs.declared.kind.Continuation.{Continuation as Number}
use Rattle.reader.specs.declared.kind.Form.{Form}
use Rattle.reader.specs.declared.kind.Form.TheVariants.{A, B, E}
use Rattle.record.specs.Entries.{Entry}
use Rattle.events.specs.Events.{Event, logged}
use Rattle.daylight.specs.Settings.{Setting}
use Rattle.messages.specs.Models.{Common, Reached}
use Rattle.messages.specs.Turns.{Turned, item_of_header, item_of_line}
use Rattle.logging.specs.Follow.{logs, turn_then, follow}
use Rattle.logging.specs.Own.{own_item, own_items}
use Rattle.joining.specs.Joining.{shifted_events}

pub map_join : {X Y : Type 0} (f : X → Y) (xs ys : List X) → map f (xs ++ ys) ≡ map f xs ++ map f ys
map_join f [] ys = refl
map_join f (x ∷ xs) ys = ap (λ l. f x ∷ l) (map_join f xs ys)

abbrev pub shifted_part : ℕ → Sided → Sided
shifted_part n (of_header q) = of_header (shifted n q)
shifted_part n (of_line q) = of_line (shifted n q)

module _ (n : ℕ) where
  pieces-shifted : (p : ℕ) (part : List ℕ) (s : Bool) (xs : List ℕ) → pieces (n + p) part s xs ≡ map (shifted n) (pieces p part s xs)
  pieces-shifted p part s [] = refl
  pieces-shifted p part s (b ∷ bs) =
      let on : n + p + length part + 1 ≡ n + (p + length part + 1) = omega arith in
      elim (is_slash (mark_of s b)) as (λ v. cond v ((n + p, part) ∷ pieces (n + p + length part + 1) [] (after s b) bs) (pieces (n + p) (part ++ b ∷ []) (after s b) bs) ≡ map (shifted n) (cond v ((p, part) ∷ pieces (p + length part + 1) [] (after s b) bs) (pieces p (part ++ b ∷ []) (after s b) bs))) [
        | true ↦ ap (λ k. (n + p, part) ∷ pieces k [] (after s b) bs) on ∙ ap (λ l. (n + p, part) ∷ l) (pieces-shifted (p + length part + 1) [] (after s b) bs)
        | false ↦ pieces-shifted p (part ++ b ∷ []) (after s b) bs
      ]

  trimmed-shifted : (run : Run) (qs : List Piece) → map (trimmed run) (map (shifted n) qs) ≡ map (shifted n) (map (trimmed run) qs)
  trimmed-shifted run [] = refl
  trimmed-shifted run (q ∷ qs) =
      ap (λ k. (k, core run q.1) ∷ map (trimmed run) (map (shifted n) qs)) (add_assoc n q.0 (prefix_len (passes run) (marks false q.1)))
      ∙ ap (λ l. shifted n (trimmed run q) ∷ l) (trimmed-shifted run qs)

  cut-shifted : (q : Piece) → cut_items (shifted n q) ≡ map (shifted n) (cut_items q)
  cut-shifted q = ap (map (trimmed Blanks)) (pieces-shifted q.0 [] false q.1) ∙ trimmed-shifted Blanks (pieces q.0 [] false q.1)

  items_shifted : (p : ℕ) (bs : List ℕ) → message_items (n + p) bs ≡ map (shifted n) (message_items p bs)
  items_shifted p bs = ap (λ k. cut_items (k, core Loose bs)) (add_assoc n p (prefix_len (passes Loose) (marks false bs))) ∙ cut-shifted (trimmed Loose (p, bs))

  -- the items of a line from an offset on
  pub message_shifted : (l : Piece) (from : ℕ) → message_items (n + l.0 + from) (drop from l.1) ≡ map (shifted n) (message_items (l.0 + from) (drop from l.1))
  message_shifted l from = ap (λ k. message_items k (drop from l.1)) (add_assoc n l.0 from) ∙ items_shifted (l.0 + from) (drop from l.1)

  body_of : (p : ℕ) (bs : List ℕ) → body_items (n + p) bs ≡ map (shifted n) (body_items p bs)
  body_of p bs =
      let mid : List ℕ = take (body_len (marks false bs)) bs in
      elim (is_blank mid) as (λ v. cond v [] (cut_items (n + p, mid)) ≡ map (shifted n) (cond v [] (cut_items (p, mid)))) [ true ↦ refl | false ↦ cut-shifted (p, mid) ]

  pub body_shifted : (l : Piece) (from : ℕ) → body_items (n + l.0 + from) (drop from l.1) ≡ map (shifted n) (body_items (l.0 + from) (drop from l.1))
  body_shifted l from = ap (λ k. body_items k (drop from l.1)) (add_assoc n l.0 from) ∙ body_of (l.0 + from) (drop from l.1)

  behind-shifted : (l : Piece) (o : Option Number) → behind_number (shifted n l) o ≡ map (shifted n) (behind_number l o)
  behind-shifted l None = refl
  behind-shifted l (Some c) = message_shifted l c.start

  pub continued_shifted : (l : Piece) → continued_items (shifted n l) ≡ map (shifted n) (continued_items l)
  continued_shifted l = behind-shifted l (continuation_of l.1)

  pub filled-shifted : (qs : List Piece) → filled (map (shifted n) qs) ≡ map (shifted n) (filled qs)
  filled-shifted [] = refl
  filled-shifted (q ∷ qs) =
      elim (eqb (length q.1) 0) as (λ v. cond v (filled (map (shifted n) qs)) (shifted n q ∷ filled (map (shifted n) qs)) ≡ map (shifted n) (cond v (filled qs) (q ∷ filled qs))) [
        | true ↦ filled-shifted qs
        | false ↦ ap (λ l. shifted n q ∷ l) (filled-shifted qs)
      ]

  lines_own : (ls : List Piece) → map of_line (map (shifted n) ls) ≡ map (shifted_part n) (map of_line ls)
  lines_own [] = refl
  lines_own (l ∷ ls) = ap (λ ps. of_line (shifted n l) ∷ ps) (lines_own ls)

  answered-shifted : (next then : List Piece → List Sided) → ((ls : List Piece) → then (map (shifted n) ls) ≡ map (shifted_part n) (next ls)) → (ls : List Piece) → answered then (map (shifted n) ls) ≡ map (shifted_part n) (answered next ls)
  answered-shifted next then h [] = refl
  answered-shifted next then h (l ∷ ls) =
      ap (λ ps. of_line (shifted n l) ∷ ps)
      (elim (is_d l.1) as (λ v. cond v (answered then (map (shifted n) ls)) (then (map (shifted n) ls)) ≡ map (shifted_part n) (cond v (answered next ls) (next ls))) [ true ↦ answered-shifted next then h ls | false ↦ h ls ])

  pub header_shifted : (hs ls : List Piece) → from_header (map (shifted n) hs) (map (shifted n) ls) ≡ map (shifted_part n) (from_header hs ls)
  header_shifted [] ls = lines_own ls
  header_shifted (h ∷ hs) ls =
      ap (λ ps. of_header (shifted n h) ∷ ps)
      (elim (is_d h.1) as (λ v. cond v (from_header (map (shifted n) hs) (map (shifted n) ls)) (answered (from_header (map (shifted n) hs)) (map (shifted n) ls)) ≡ map (shifted_part n) (cond v (from_header hs ls) (answered (from_header hs) ls))) [
        | true ↦ header_shifted hs ls
        | false ↦ answered-shifted (from_header hs) (from_header (map (shifted n) hs)) (header_shifted hs) ls
      ])

  own_one : (f : Form) (q : Piece) → own_item f (shifted n q) ≡ shifted_part n (own_item f q)
  own_one A q = refl
  own_one B q = refl
  own_one E q = refl

  pub own_shifted : (f : Form) (qs : List Piece) → own_items f (map (shifted n) qs) ≡ map (shifted_part n) (own_items f qs)
  own_shifted f [] = refl
  own_shifted f (q ∷ qs) = ap (λ x. x ∷ own_items f (map (shifted n) qs)) (own_one f q) ∙ ap (λ ps. shifted_part n (own_item f q) ∷ ps) (own_shifted f qs)

  logs-shifted : (place : ℕ) (o : Option Entry) (es fs : List Event) → fs ≡ shifted_events n es → logs (n + place) o fs ≡ shifted_events n (logs place o es)
  logs-shifted place None es fs h = h
  logs-shifted place (Some e) es fs h = ap (λ l. logged (n + place) e ∷ l) h

  turn-shifted : (place : ℕ) (t : Turned) (k then : Reached → List Event) → ((q : Reached) → then q ≡ shifted_events n (k q)) → turn_then (n + place) t then ≡ shifted_events n (turn_then place t k)
  turn-shifted place (Err r) k then h = refl
  turn-shifted place (Ok t) k then h = logs-shifted place t.1 (k t.0) (then t.0) (h t.0)

  -- what an item does does not depend on where it stands
  pub follow-shifted : (S : Setting) (m : Common) (p : Reached) (xs : List Sided) (k then : Reached → List Event) → ((q : Reached) → then q ≡ shifted_events n (k q)) → follow S m p (map (shifted_part n) xs) then ≡ shifted_events n (follow S m p xs k)
  follow-shifted S m p [] k then h = h p
  follow-shifted S m p (of_header x ∷ xs) k then h =
      turn-shifted x.0 (item_of_header S m p x.1) (λ q. follow S m q xs k) (λ q. follow S m q (map (shifted_part n) xs) then) (λ q. follow-shifted S m q xs k then h)
  follow-shifted S m p (of_line x ∷ xs) k then h =
      turn-shifted x.0 (item_of_line m.form S m p x.1) (λ q. follow S m q xs k) (λ q. follow S m q (map (shifted_part n) xs) then) (λ q. follow-shifted S m q xs k then h)
