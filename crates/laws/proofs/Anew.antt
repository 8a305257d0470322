-- The body lines of a table, each read by itself.
use Rattle.std.proofs.Common.{◌≡◌, ℕ, true, false, cond, List, [], ◌∷◌, ◌++◌, Ok, Err, Result, sym, refl, ap, ◌∙◌, append_assoc}
use Rattle.std.specs.List.{flat_map, AllByRecursion}
use Rattle.items.specs.Items.{is_blank}
use Rattle.reader.specs.Kinds.{kind_of, readable}
use Rattle.reader.specs.Lines.{Piece}
use Rattle.reader.specs.declared.kind.LineKind.TheVariants.{End, Other}
use Rattle.record.specs.Stations.{station_of}
use Rattle.refusals.specs.declared.Fault.{Fault}
use Rattle.refusals.specs.declared.MessageRefusal.TheVariants as why
use Rattle.refusals.specs.declared.Refusal.TheVariants.{Message}
use Rattle.terms.specs.Standing.{Standing}
use Rattle.events.specs.Events.{Event, fault}
use Rattle.events.specs.Room.{refusals}
use Rattle.daylight.specs.Settings.{Setting}
use Rattle.messages.specs.Models.{Common, Reached}
use Rattle.openings.specs.Openings.{field}
use Rattle.stages.specs.Stages.{Stage, outside, header, body, is_table, onto, refuses, line_of, body_line, in_body, by_kind, came, within}
use Rattle.laws.specs.Tables.{body_events, Plain, Reads, BodyLines}
use Rattle.laws.proofs.Runs.{came_runs, behind_read, behind_refused}

module _ (S : Setting) (m : Common) (t : Standing) (hs : List Piece) where
  station_leads : (l : Piece) (r : Result (List ℕ × ℕ) Fault) (k : Stage → List Event) → came S (line_of m t hs l r) k ≡ came S (line_of m t hs l r) (λ _. k (body m t hs))
  station_leads l (Err x) k = refl
  station_leads l (Ok n) k = refl

  -- a body line leads back to where it began
  pub line_leads : (l : Piece) (k : Stage → List Event) → came S (body_line m t hs l) k ≡ came S (body_line m t hs l) (λ _. k (body m t hs))
  unfolding body_line
  line_leads l k =
      let bad = refuses (fault (Message why.Unreadable) l.0) in
      let named = line_of m t hs l (field why.Station station_of l 0) in
      elim (readable l.1) as (λ b. came S (cond b (cond (is_blank l.1) (onto (body m t hs)) named) bad) k ≡ came S (cond b (cond (is_blank l.1) (onto (body m t hs)) named) bad) (λ _. k (body m t hs))) [
        | true ↦ elim (is_blank l.1) as (λ b. came S (cond b (onto (body m t hs)) named) k ≡ came S (cond b (onto (body m t hs)) named) (λ _. k (body m t hs))) [
          | true ↦ refl
          | false ↦ station_leads l (field why.Station station_of l 0) k
        ]
        | false ↦ refl
      ]

  module _ (e : ℕ) where
    one_line : (l : Piece) (ls : List Piece) → Plain l → within S e (body m t hs) (l ∷ ls) ≡ came S (body_line m t hs l) (λ _. within S e (body m t hs) ls)
    one_line l ls plain = ap (λ k. came S (by_kind S (body m t hs) l k) (λ τ. within S e τ ls)) plain ∙ line_leads l (λ τ. within S e τ ls)

    each : (ls more : List Piece) → AllByRecursion (Reads S m t hs) ls → within S e (body m t hs) (ls ++ more) ≡ flat_map (body_events S m t hs) ls ++ within S e (body m t hs) more
    each [] more h = refl
    each (l ∷ ls) more h =
        one_line l (ls ++ more) h.0.0
        ∙ behind_read (came_runs S (body_line m t hs l)) h.0.1 (within S e (body m t hs) (ls ++ more))
        ∙ ap (λ es. body_events S m t hs l ++ es) (each ls more h.1)
        ∙ sym (append_assoc (body_events S m t hs l) (flat_map (body_events S m t hs) ls) (within S e (body m t hs) more))

    last : (l : Piece) (ls : List Piece) → Plain l → (refusals (body_events S m t hs l) ≡ [] → ⊥) → within S e (body m t hs) (l ∷ ls) ≡ body_events S m t hs l
    last l ls plain some = one_line l ls plain ∙ behind_refused (came_runs S (body_line m t hs l)) some (λ _. within S e (body m t hs) ls)

    module _ (p : Reached) (n : ℕ) (is : is_table m.form ≡ true) where
      first : (l : Piece) (ls : List Piece) → Plain l → within S e (header m t p n hs) (l ∷ ls) ≡ within S e (body m t hs) (l ∷ ls)
      first l ls plain =
          ap (λ k. came S (by_kind S (header m t p n hs) l k) (λ τ. within S e τ ls)) plain
          ∙ ap (λ b. came S (cond b (in_body m t hs l Other) (onto outside)) (λ τ. within S e τ ls)) is
          ∙ sym (ap (λ k. came S (by_kind S (body m t hs) l k) (λ τ. within S e τ ls)) plain)

      closes : (l : Piece) (rest : List Piece) → kind_of l.1 ≡ End → within S e (body m t hs) (l ∷ rest) ≡ within S e outside rest
      closes l rest end = ap (λ k. came S (by_kind S (body m t hs) l k) (λ τ. within S e τ rest)) end

      -- a line that is read behind the header, more such lines, and then others
      pub from_line : (x : Piece) (ls more : List Piece) (es : List Event) → AllByRecursion (Reads S m t hs) (x ∷ ls) → within S e (body m t hs) more ≡ es
          → within S e (header m t p n hs) (x ∷ ls ++ more) ≡ flat_map (body_events S m t hs) (x ∷ ls) ++ es
      from_line x ls more es h b = first x (ls ++ more) h.0.0 ∙ each (x ∷ ls) more h ∙ ap (λ es. flat_map (body_events S m t hs) (x ∷ ls) ++ es) b

      -- the same, perhaps without such a line
      pub from_header : (ls more : List Piece) (es : List Event) → AllByRecursion (Reads S m t hs) ls → within S e (header m t p n hs) more ≡ es → within S e (body m t hs) more ≡ es
          → within S e (header m t p n hs) (ls ++ more) ≡ flat_map (body_events S m t hs) ls ++ es
      from_header [] more es h a b = a
      from_header (x ∷ ls) more es h a b = from_line x ls more es h b

      table : (ls : List Piece) (l : Piece) (rest : List Piece) → AllByRecursion (Reads S m t hs) ls → kind_of l.1 ≡ End
          → within S e (header m t p n hs) (ls ++ l ∷ rest) ≡ flat_map (body_events S m t hs) ls ++ within S e outside rest
      table ls l rest h end =
          from_header ls (l ∷ rest) (within S e outside rest) h
          (ap (λ k. came S (by_kind S (header m t p n hs) l k) (λ τ. within S e τ rest)) end ∙ ap (λ b. came S (cond b (in_body m t hs l End) (onto outside)) (λ τ. within S e τ rest)) is)
          (closes l rest end)

pub body_lines : BodyLines
body_lines = record {
  each = λ S e m t hs ls more h. each S m t hs e ls more h;
  last = λ S e m t hs l ls plain some. last S m t hs e l ls plain some;
  first = λ S e m t p n hs l ls is plain. first S m t hs e p n is l ls plain;
  table = λ S e m t p n hs ls l rest is h end. table S m t hs e p n is ls l rest h end;
}
