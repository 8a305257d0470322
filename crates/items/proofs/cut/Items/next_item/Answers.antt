use Rattle.std.proofs.Common.{◌≡◌, ℕ, ◌+◌, ◌∷◌, take, drop, sym, ap, ◌∙◌, arith}
use Rattle.items.proofs.cut.Items.next_item.Goals as goal
use Rattle.items.proofs.cut.Items.next_item.Goals.{in-empty, in-len1-up}
use Rattle.items.proofs.Cuts.{last_item, next_item}
use Rattle.items.specs.declared.mark.Run.TheVariants.{Blanks}
use Rattle.items.specs.Items.{cut_items, trimmed}
use Rattle.items.specs.Marks.{core}
use Rattle.items.specs.Steps.{items_of}
use Rattle.std.proofs.lemmas.List.{drop-drop, take_rest}

pub returns-clause-step : goal.returns-clause-step
returns-clause-step c =
    let xs = c.in_ok-line.line.part.now in
    let p : ℕ = c.in_ok-line.line.place in
    let n : ℕ = c.run_len-len.result in
    let lead : ℕ = c.trim-lead.result.0 in
    let made : trimmed Blanks (p, take n xs) ≡ (p + lead, c.trim-lead.result.1.now) =
    ap (λ l. trimmed Blanks (p, l)) (sym c.split_at.ensures.front)
    ∙ ap (λ k. (p + k, core Blanks c.split_at.result.0.now)) (sym c.trim-lead.ensures.lead)
    ∙ ap (λ l. (p + lead, l)) (sym c.trim-lead.ensures.value)
    in
    let at = sym c.run_len-len.ensures.value in
    elim c.if-behind-lt1.branch [
      | in-empty w ↦
          ap items_of c.in_ok-line.was
          ∙ last_item p xs n at (omega (arith, c.split_at.ensures.back_len, c.run_len-len.ensures.valid, w.in-empty.len_below)) _ made
          ∙ ap (λ o. (p + lead, c.trim-lead.result.1.now) ∷ items_of o) (sym w.self-is)
      | in-len1-up w ↦
          ap items_of c.in_ok-line.was
          ∙ next_item p xs n at (omega (arith, c.split_at.ensures.back_len, c.run_len-len.ensures.valid, w.in-len1-up.len_at_least)) _ made
          ∙ ap (λ l. (p + lead, c.trim-lead.result.1.now) ∷ cut_items (p + n + 1, l)) (sym (take_rest c.split_at.result.1.now 1 ∙ ap (drop 1) c.split_at.ensures.back ∙ drop-drop 1 n xs))
          ∙ ap (λ o. (p + lead, c.trim-lead.result.1.now) ∷ items_of o) (sym w.self-is)
    ]
