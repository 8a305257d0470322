-- A push grows a table.
use Rattle.std.proofs.Common.{◌≡◌, ◌+◌, [], ◌∷◌, ◌++◌, length, drop, Ok, Err, Result, sym, ap, ◌∙◌, arith, MatchResult}
use Rattle.std.proofs.lemmas.List.{drop-drop, length-append, length-take-le}
use Rattle.slots.specs.declared.list.Slots.{Slots}
use Rattle.slots.specs.Lists.{held, behind, slots_room}
use Rattle.sink.specs.Tables.{Grown}

module _ {T : Type 0} where
  -- what `push` says
  pub push_grown : {A E : Type 0} (r : Result A E) (s t : Slots T) (x : T)
      → MatchResult r (λ _. (held t ≡ held s ++ x ∷ []) × (slots_room t + 1 ≡ slots_room s) × (behind t ≡ drop 1 (behind s))) (λ _. (slots_room s ≡ 0) × (t ≡ s))
      → t.items.ghost_name ≡ s.items.ghost_name → Grown s t
  push_grown (Ok _) s t x h l =
      let more : t.len ≡ s.len + 1 =
      sym (length-take-le t.len t.items.now t.ok) ∙ ap length h.0 ∙ length-append (held s) (x ∷ []) ∙ ap (λ n. n + 1) (length-take-le s.len s.items.now s.ok) in
      record { lent = l; long = omega (arith, more, h.1, s.ok, t.ok); longer = omega arith; behind = h.2 ∙ drop-drop 1 s.len s.items.now ∙ ap (λ n. drop n s.items.now) (sym more) }
  push_grown (Err _) s t x h l =
      let same : t.len ≡ s.len = ap (λ (u : Slots T). u.len) h.1 in
      record { lent = l; long = ap (λ (u : Slots T). length u.items.now) h.1; longer = omega arith; behind = ap (λ (u : Slots T). drop t.len u.items.now) h.1 }
