-- What lines do and come to, wherever they stand. Assumes nothing.
use Rattle.std.proofs.Common.{◌≡◌, ℕ, ◌+◌, Bool, true, false, cond, List, [], ◌∷◌, ◌++◌, map, drop, Ok, Err, Result, sym, refl, ap, ◌∙◌}
use Rattle.merging.specs.Headers.{continued_items}
use Rattle.items.specs.Items.{message_items, body_items, is_blank}
use Rattle.merging.specs.Merging.{Sided, filled, from_header}
use Rattle.reader.specs.Kinds.{kind_of, readable}
use Rattle.reader.specs.Lines.{Piece, shifted}
use Rattle.reader.specs.declared.kind.Form.{Form}
use Rattle.reader.specs.declared.kind.LineKind.{LineKind}
use Rattle.reader.specs.declared.kind.LineKind.TheVariants.{Opening, Continuation, End, Dotted, Other}
use Rattle.record.specs.Stations.{station_of}
use Rattle.refusals.specs.declared.Fault.{Fault}
use Rattle.refusals.specs.declared.MessageRefusal.TheVariants as why
use Rattle.refusals.specs.declared.Refusal.TheVariants.{Message}
use Rattle.terms.specs.Standing.{Standing}
use Rattle.events.specs.Events.{Event, fault, refused}
use Rattle.daylight.specs.Settings.{Setting}
use Rattle.messages.specs.Models.{Common, Reached, fresh}
use Rattle.openings.specs.Openings.{Opened, field, opened}
use Rattle.logging.specs.Own.{own_items}
use Rattle.stages.specs.Stages.{Stage, outside, skipping, header, body, Moved, onto, reads, refuses, is_table, opens_to, begins, continues_as, continues, of_station, line_of, body_line, in_body, behind, in_header, pass_over, in_stage, by_kind, next, came, closing, within}
use Rattle.shef.specs.Texts.{is_opening, Stretch, on_front, cut, end_of, stretch, stretches, to_come}
use Rattle.joining.specs.Joining.{shifted_event, shifted_events}
use Rattle.joining.proofs.ShiftedFields.{shifted_fault, shifted_field, field-shifted, opened-shifted}
use Rattle.joining.proofs.ShiftedItems.{map_join, shifted_part, message_shifted, body_shifted, continued_shifted, filled-shifted, header_shifted, own_shifted, follow-shifted}

-- the places that a stage keeps are those of its header's items
abbrev shifted_stage : ℕ → Stage → Stage
shifted_stage n outside = outside
shifted_stage n skipping = skipping
shifted_stage n (header m t p k hs) = header m t p k (map (shifted n) hs)
shifted_stage n (body m t hs) = body m t (map (shifted n) hs)

abbrev shifted_move : ℕ → Moved → Moved
shifted_move n (onto σ) = onto (shifted_stage n σ)
shifted_move n (reads m p ps then) = reads m p (map (shifted_part n) ps) (λ q. shifted_stage n (then q))
shifted_move n (refuses f) = refuses (shifted_fault n f)

abbrev shifted_stretch : ℕ → Stretch → Stretch
shifted_stretch n s = (shifted n s.0, map (shifted n) s.1)

module _ (n : ℕ) where
  opens_shifted : (f : Form) (l : Piece) (r : Result Opened Fault) → opens_to f (shifted n l) (shifted_field n r) ≡ shifted_move n (opens_to f l r)
  opens_shifted f l (Err e) = refl
  opens_shifted f l (Ok o) =
      let items : List Piece = message_items (l.0 + o.start) (drop o.start l.1) in
      ap (λ qs. reads o.common (fresh o.terms) (own_items f qs) (λ p. header o.common o.terms p 0 qs)) (message_shifted n l o.start)
      ∙ ap (λ ps. reads o.common (fresh o.terms) ps (λ p. header o.common o.terms p 0 (map (shifted n) items))) (own_shifted n f items)

  begins-shifted : (S : Setting) (f : Form) (v : Bool) (l : Piece) → begins S f v (shifted n l) ≡ shifted_move n (begins S f v l)
  unfolding begins
  begins-shifted S f v l =
      elim (readable l.1) as (λ b. cond b (opens_to f (shifted n l) (opened S.today f v (shifted n l))) (refuses (fault (Message why.Unreadable) (n + l.0))) ≡ shifted_move n (cond b (opens_to f l (opened S.today f v l)) (refuses (fault (Message why.Unreadable) l.0)))) [
        | true ↦ ap (opens_to f (shifted n l)) (opened-shifted n S.today f v l) ∙ opens_shifted f l (opened S.today f v l)
        | false ↦ refl
      ]

  continues-shifted : (m : Common) (t : Standing) (p : Reached) (k : ℕ) (hs : List Piece) (f : Form) (v : Bool) (l : Piece) → continues m t p k (map (shifted n) hs) f v (shifted n l) ≡ shifted_move n (continues m t p k hs f v l)
  unfolding continues
  continues-shifted m t p k hs f v l =
      let to : List Piece → Reached → Stage = λ qs q. header m t q (k + 1) qs in
      let going : Bool → List Piece → List Piece → ℕ → Moved = λ b qs gs at. cond b (reads m p (own_items m.form qs) (to (gs ++ qs))) (refuses (fault (Message why.Continuation) at)) in
      let goes : reads m p (own_items m.form (continued_items (shifted n l))) (to (map (shifted n) hs ++ continued_items (shifted n l))) ≡ reads m p (map (shifted_part n) (own_items m.form (continued_items l))) (to (map (shifted n) (hs ++ continued_items l))) =
      ap (λ qs. reads m p (own_items m.form qs) (to (map (shifted n) hs ++ qs))) (continued_shifted n l)
      ∙ ap (λ ps. reads m p ps (to (map (shifted n) hs ++ map (shifted n) (continued_items l)))) (own_shifted n m.form (continued_items l))
      ∙ ap (λ qs. reads m p (map (shifted_part n) (own_items m.form (continued_items l))) (to qs)) (sym (map_join (shifted n) hs (continued_items l))) in
      let numbered : going (continues_as m k f v l.1) (continued_items (shifted n l)) (map (shifted n) hs) (n + l.0) ≡ shifted_move n (going (continues_as m k f v l.1) (continued_items l) hs l.0) =
      elim (continues_as m k f v l.1) as (λ b. going b (continued_items (shifted n l)) (map (shifted n) hs) (n + l.0) ≡ shifted_move n (going b (continued_items l) hs l.0)) [ true ↦ goes | false ↦ refl ] in
      elim (readable l.1) as (λ b. cond b (going (continues_as m k f v l.1) (continued_items (shifted n l)) (map (shifted n) hs) (n + l.0)) (refuses (fault (Message why.Unreadable) (n + l.0))) ≡ shifted_move n (cond b (going (continues_as m k f v l.1) (continued_items l) hs l.0) (refuses (fault (Message why.Unreadable) l.0)))) [
        | true ↦ numbered
        | false ↦ refl
      ]

  line-shifted : (m : Common) (t : Standing) (hs : List Piece) (l : Piece) (r : Result (List ℕ × ℕ) Fault) → line_of m t (map (shifted n) hs) (shifted n l) (shifted_field n r) ≡ shifted_move n (line_of m t hs l r)
  line-shifted m t hs l (Err e) = refl
  line-shifted m t hs l (Ok s) =
      let items : List Piece = body_items (l.0 + s.1) (drop s.1 l.1) in
      let to : List Sided → Moved = λ ps. reads (of_station m s.0) (fresh t) ps (λ _. body m t (map (shifted n) hs)) in
      ap (λ qs. to (from_header (filled (map (shifted n) hs)) qs)) (body_shifted n l s.1)
      ∙ ap (λ gs. to (from_header gs (map (shifted n) items))) (filled-shifted n hs)
      ∙ ap to (header_shifted n (filled hs) items)

  body_line-shifted : (m : Common) (t : Standing) (hs : List Piece) (l : Piece) → body_line m t (map (shifted n) hs) (shifted n l) ≡ shifted_move n (body_line m t hs l)
  unfolding body_line
  body_line-shifted m t hs l =
      let reading : Bool → List Piece → Piece → Moved = λ b gs q. cond b (onto (body m t gs)) (line_of m t gs q (field why.Station station_of q 0)) in
      let inked : reading (is_blank l.1) (map (shifted n) hs) (shifted n l) ≡ shifted_move n (reading (is_blank l.1) hs l) =
      elim (is_blank l.1) as (λ b. reading b (map (shifted n) hs) (shifted n l) ≡ shifted_move n (reading b hs l)) [
        | true ↦ refl
        | false ↦ ap (line_of m t (map (shifted n) hs) (shifted n l)) (field-shifted n why.Station station_of l 0) ∙ line-shifted m t hs l (field why.Station station_of l 0)
      ] in
      elim (readable l.1) as (λ b. cond b (reading (is_blank l.1) (map (shifted n) hs) (shifted n l)) (refuses (fault (Message why.Unreadable) (n + l.0))) ≡ shifted_move n (cond b (reading (is_blank l.1) hs l) (refuses (fault (Message why.Unreadable) l.0)))) [
        | true ↦ inked
        | false ↦ refl
      ]

  in_body-shifted : (m : Common) (t : Standing) (hs : List Piece) (l : Piece) (k : LineKind) → in_body m t (map (shifted n) hs) (shifted n l) k ≡ shifted_move n (in_body m t hs l k)
  in_body-shifted m t hs l (Opening f v) = refl
  in_body-shifted m t hs l (Continuation f v) = refl
  in_body-shifted m t hs l End = refl
  in_body-shifted m t hs l Dotted = refl
  in_body-shifted m t hs l Other = body_line-shifted m t hs l

  behind-shifted : (m : Common) (t : Standing) (hs : List Piece) (l : Piece) (k : LineKind) → behind m t (map (shifted n) hs) (shifted n l) k ≡ shifted_move n (behind m t hs l k)
  behind-shifted m t hs l k =
      elim (is_table m.form) as (λ b. cond b (in_body m t (map (shifted n) hs) (shifted n l) k) (onto outside) ≡ shifted_move n (cond b (in_body m t hs l k) (onto outside))) [ true ↦ in_body-shifted m t hs l k | false ↦ refl ]

  in_header-shifted : (m : Common) (t : Standing) (p : Reached) (i : ℕ) (hs : List Piece) (l : Piece) (k : LineKind) → in_header m t p i (map (shifted n) hs) (shifted n l) k ≡ shifted_move n (in_header m t p i hs l k)
  in_header-shifted m t p i hs l (Opening f v) = behind-shifted m t hs l (Opening f v)
  in_header-shifted m t p i hs l (Continuation f v) = continues-shifted m t p i hs f v l
  in_header-shifted m t p i hs l End = behind-shifted m t hs l End
  in_header-shifted m t p i hs l Dotted = behind-shifted m t hs l Dotted
  in_header-shifted m t p i hs l Other = behind-shifted m t hs l Other

  passed_shifted : (l : Piece) (k : LineKind) → pass_over (shifted n l) k ≡ shifted_move n (pass_over l k)
  passed_shifted l (Opening f v) = refl
  passed_shifted l (Continuation f v) = refl
  passed_shifted l End = refl
  passed_shifted l Dotted = refl
  passed_shifted l Other = refl

  stage-shifted : (σ : Stage) (l : Piece) (k : LineKind) → in_stage (shifted_stage n σ) (shifted n l) k ≡ shifted_move n (in_stage σ l k)
  stage-shifted outside l k = passed_shifted l k
  stage-shifted skipping l k = refl
  stage-shifted (header m t p i hs) l k = in_header-shifted m t p i hs l k
  stage-shifted (body m t hs) l k = in_body-shifted m t hs l k

  kind_shifted : (S : Setting) (σ : Stage) (l : Piece) (k : LineKind) → by_kind S (shifted_stage n σ) (shifted n l) k ≡ shifted_move n (by_kind S σ l k)
  kind_shifted S σ l (Opening f v) = begins-shifted S f v l
  kind_shifted S σ l (Continuation f v) = stage-shifted σ l (Continuation f v)
  kind_shifted S σ l End = stage-shifted σ l End
  kind_shifted S σ l Dotted = stage-shifted σ l Dotted
  kind_shifted S σ l Other = stage-shifted σ l Other

  came-shifted : (S : Setting) (x : Moved) (k then : Stage → List Event) → ((σ : Stage) → then (shifted_stage n σ) ≡ shifted_events n (k σ)) → came S (shifted_move n x) then ≡ shifted_events n (came S x k)
  came-shifted S (onto σ) k then h = h σ
  came-shifted S (reads m p ps to) k then h = follow-shifted n S m p ps (λ q. k (to q)) (λ q. then (shifted_stage n (to q))) (λ q. h (to q))
  came-shifted S (refuses f) k then h = refl

  next-shifted : (S : Setting) (σ : Stage) (l : Piece) (k then : Stage → List Event) → ((τ : Stage) → then (shifted_stage n τ) ≡ shifted_events n (k τ)) → came S (next S (shifted_stage n σ) (shifted n l)) then ≡ shifted_events n (came S (next S σ l) k)
  next-shifted S σ l k then h = ap (λ x. came S x then) (kind_shifted S σ l (kind_of l.1)) ∙ came-shifted S (next S σ l) k then h

  closing-shifted : (σ : Stage) (e : ℕ) → closing (shifted_stage n σ) (n + e) ≡ shifted_events n (closing σ e)
  closing-shifted outside e = refl
  closing-shifted skipping e = refl
  closing-shifted (header m t p i hs) e =
      elim (is_table m.form) as (λ b. cond b (refused (Message why.Unfinished) (n + e) ∷ []) [] ≡ shifted_events n (cond b (refused (Message why.Unfinished) e ∷ []) [])) [ true ↦ refl | false ↦ refl ]
  closing-shifted (body m t hs) e = refl

  within-shifted : (S : Setting) (e : ℕ) (σ : Stage) (ls : List Piece) → within S (n + e) (shifted_stage n σ) (map (shifted n) ls) ≡ shifted_events n (within S e σ ls)
  within-shifted S e σ [] = closing-shifted σ e
  within-shifted S e σ (l ∷ ls) = next-shifted S σ l (λ τ. within S e τ ls) (λ τ. within S (n + e) τ (map (shifted n) ls)) (λ τ. within-shifted S e τ ls)

  cut-shifted : (ls : List Piece) → cut (map (shifted n) ls) ≡ (map (shifted n) (cut ls).0, map (shifted_stretch n) (cut ls).1)
  cut-shifted [] = refl
  cut-shifted (l ∷ ls) =
      ap (on_front (is_opening (kind_of l.1)) (shifted n l)) (cut-shifted ls)
      ∙ elim (is_opening (kind_of l.1)) as (λ b. on_front b (shifted n l) (map (shifted n) (cut ls).0, map (shifted_stretch n) (cut ls).1) ≡ (map (shifted n) (on_front b l (cut ls)).0, map (shifted_stretch n) (on_front b l (cut ls)).1)) [ true ↦ refl | false ↦ refl ]

  end_shifted : (e : ℕ) (ss : List Stretch) → end_of (n + e) (map (shifted_stretch n) ss) ≡ n + end_of e ss
  end_shifted e [] = refl
  end_shifted e (s ∷ ss) = refl

  stretch-shifted : (S : Setting) (e : ℕ) (s : Stretch) → stretch S (n + e) (shifted_stretch n s) ≡ shifted_events n (stretch S e s)
  stretch-shifted S e s = next-shifted S outside s.0 (λ σ. within S e σ s.1) (λ σ. within S (n + e) σ (map (shifted n) s.1)) (λ σ. within-shifted S e σ s.1)

  stretches-shifted : (S : Setting) (e : ℕ) (ss : List Stretch) → stretches S (n + e) (map (shifted_stretch n) ss) ≡ shifted_events n (stretches S e ss)
  stretches-shifted S e [] = refl
  stretches-shifted S e (s ∷ ss) =
      ap (λ d. stretch S d (shifted_stretch n s) ++ stretches S (n + e) (map (shifted_stretch n) ss)) (end_shifted e ss)
      ∙ ap (λ (es : List Event). es ++ stretches S (n + e) (map (shifted_stretch n) ss)) (stretch-shifted S (end_of e ss) s)
      ∙ ap (λ (es : List Event). shifted_events n (stretch S (end_of e ss) s) ++ es) (stretches-shifted S e ss)
      ∙ sym (map_join (shifted_event n) (stretch S (end_of e ss) s) (stretches S e ss))

  pub to_come-shifted : (S : Setting) (e : ℕ) (ls : List Piece) → to_come S (n + e) outside (map (shifted n) ls) ≡ shifted_events n (to_come S e outside ls)
  to_come-shifted S e ls =
      let front : List Piece = (cut ls).0 in
      let ss : List Stretch = (cut ls).1 in
      ap (λ (c : List Piece × List Stretch). within S (end_of (n + e) c.1) outside c.0 ++ stretches S (n + e) c.1) (cut-shifted ls)
      ∙ ap (λ d. within S d outside (map (shifted n) front) ++ stretches S (n + e) (map (shifted_stretch n) ss)) (end_shifted e ss)
      ∙ ap (λ (es : List Event). es ++ stretches S (n + e) (map (shifted_stretch n) ss)) (within-shifted S (end_of e ss) outside front)
      ∙ ap (λ (es : List Event). shifted_events n (within S (end_of e ss) outside front) ++ es) (stretches-shifted S e ss)
      ∙ sym (map_join (shifted_event n) (within S (end_of e ss) outside front) (stretches S e ss))
