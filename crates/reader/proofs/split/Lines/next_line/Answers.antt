use Rattle.std.proofs.Common.{◌≡◌, ℕ, ◌+◌, ◌-◌, ◌≤◌, eqb, List, [], ◌∷◌, length, get_or, take, drop, sym, refl, ap, ◌∙◌, subst, arith}
use Rattle.std.proofs.lemmas.List.{at_drop_all, drop_all, drop-drop, get_or-drop, length-take-le, take_all, take-take}
use Rattle.std.proofs.lemmas.List.Quantifiers.{position-Some}
use Rattle.std.proofs.lemmas.Bool.{eqb-false, eqb-true}
use Rattle.reader.specs.Lines.{FirstLine, less_return, lines_from, lines_of}
use Rattle.reader.proofs.First.{first_at_end, first_at_feed}
use Rattle.reader.proofs.Scan.{at_end, at_feed, front_stands, return_front, return_le}
use Rattle.reader.proofs.split.Lines.next_line.Goals as goal

pub returns-in-Some : goal.returns-in-Some
returns-in-Some c =
    let text = c.args.self.now.text.now in
    let pos : ℕ = c.args.self.now.pos in
    let rest = c.split_at.result.1.now in
    let n : ℕ = c.in-Some.len in
    let part : List ℕ = c.less_return-part.result.now in
    let left = c.split_at.ensures.back in
    let found = position-Some (λ b. eqb b 10) c.split_at.result.1.now c.in-Some.len 0 (sym c.line_end.ensures ∙ c.in-Some.is) in
    let back : c.args.self.now.pos + c.in-Some.len + 1 - 1 ≡ c.args.self.now.pos + c.in-Some.len = omega arith in
    let on : c.args.self.now.pos + (c.in-Some.len + 1) ≡ c.args.self.now.pos + c.in-Some.len + 1 = omega arith in
    let fits : c.in-Some.len ≤ length c.split_at.result.1.now = omega (arith, found.0) in
    let short : length c.less_return-part.result.now ≤ c.in-Some.len = omega (arith, ap length c.less_return-part.ensures, return_le (take c.in-Some.len c.split_at.result.1.now), length-take-le c.in-Some.len c.split_at.result.1.now fits) in
    let behind : drop (c.in-Some.len + 1) c.split_at.result.1.now ≡ drop (c.args.self.now.pos + c.in-Some.len + 1) c.args.self.now.text.now = ap (drop (n + 1)) left ∙ drop-drop (n + 1) pos text ∙ ap (λ k. drop k text) on in
    let front : c.less_return-part.result.now ≡ take (length c.less_return-part.result.now) c.split_at.result.1.now =
    subst (λ l. l ≡ take (length l) (take n rest)) (sym c.less_return-part.ensures) (return_front (take n rest)) ∙ take-take (length part) n rest short
    in (
      refl,
      record {
        next = ap (lines_of pos) (sym left) ∙ at_feed pos rest n (sym c.in-Some.is ∙ c.line_end.ensures) ∙ ap (λ l. (pos, l) ∷ lines_of (pos + n + 1) (drop (n + 1) rest)) (sym c.less_return-part.ensures)
            ∙ ap (λ l. (pos, part) ∷ lines_of (pos + n + 1) l) behind;
        first = subst (λ t. FirstLine t part (drop (pos + n + 1) text)) left
            (subst (λ l. FirstLine rest l (drop (pos + n + 1) text)) (sym c.less_return-part.ensures)
            (subst (λ r. FirstLine rest (less_return (take n rest)) r) behind (first_at_feed rest n (sym c.in-Some.is ∙ c.line_end.ensures))));
        stands = front_stands text rest part pos left front;
        within = omega (arith, c.split_at.ensures.back_len, found.0);
        fits = omega (arith, c.split_at.ensures.back_len, found.0);
        here = refl;
        past = omega (arith, c.split_at.ensures.back_len, found.0);
        feed = λ _. ap (λ k. get_or text k 0) back ∙ sym (get_or-drop pos text n 0) ∙ ap (λ l. get_or l n 0) (sym left) ∙ eqb-true (get_or rest n 0) 10 found.1;
      },
    )

pub returns-in-None : goal.returns-in-None
returns-in-None c =
    let text = c.args.self.now.text.now in
    let pos : ℕ = c.args.self.now.pos in
    let rest = c.split_at.result.1.now in
    let left = c.split_at.ensures.back in
    let some : length c.split_at.result.1.now ≡ 0 → ⊥ = eqb-false _ 0 (sym c.if-is_empty.ensures) in (
      refl,
      record {
        next = ap (lines_of pos) (sym left) ∙ at_end pos rest (sym c.in-None.is ∙ c.line_end.ensures) (omega arith)
            ∙ ap (λ l. (pos, rest) ∷ l) (sym (at_drop_all (lines_from (length text) []) text (length text) (omega arith)));
        first = subst (λ t. FirstLine t rest (drop (length text) text)) left
            (subst (λ r. FirstLine rest rest r) (sym (drop_all (length text) text (omega arith))) (first_at_end rest (sym c.in-None.is ∙ c.line_end.ensures)));
        stands = front_stands text rest rest pos left (sym (take_all (length rest) rest (omega arith)));
        within = omega (arith, c.split_at.ensures.back_len);
        fits = omega (arith, c.split_at.ensures.back_len);
        here = refl;
        past = omega arith;
        feed = λ h. absurd (omega arith);
      },
    )
