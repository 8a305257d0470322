use Rattle.std.proofs.Common.{◌≡◌, ◌+◌, sym, ◌∙◌, arith, rules}
use Rattle.messages.specs.Models.{common}
use Rattle.stages.proofs.Moving.{none_cases, continues-none, continues_here, other_form, other_revision, other_number, forms_alike}
use Rattle.stages.proofs.stage.Open.next_number.Goals as goal
use Rattle.stages.proofs.stage.Open.next_number.Goals.{else-eq-via-then-eq+then-self-revised+then-here-gt0+else-here-self, else-eq-via-then-eq+then-self-revised+else-here-gt0, else-eq-via-then-eq+else-self-revised, else-eq-via-else-eq}

pub returns-in_err-here : goal.returns-in_err-here
returns-in_err-here c = none_cases _ _ c.from_residual.ensures (continues-none (common c.args.self.now.message) c.args.self.now.number c.args.form c.args.revised c.args.line.now c.in_err-here.ensures.value)

pub returns-then-here-self : goal.returns-then-here-self
returns-then-here-self c =
    let alike = forms_alike c.args.self.now.message.form c.args.form in
    let revision : c.args.self.now.message.revised ≡ c.args.revised = search rules in
    let next : c.in_ok-here.here.number ≡ c.args.self.now.number + 1 = omega arith in
    (continues_here (common c.args.self.now.message) c.args.self.now.number c.args.form c.args.revised c.args.line.now c.in_ok-here.here c.in_ok-here.ensures.value (sym alike ∙ sym c.eq.ensures ∙ c.if-eq.true) revision next, next)

pub returns-else-eq : goal.returns-else-eq
returns-else-eq c =
    let m = common c.args.self.now.message in
    let n = c.args.self.now.number in
    let is = c.in_ok-here.ensures.value in
    elim c.else-eq.branch [
      | else-eq-via-then-eq+then-self-revised+then-here-gt0+else-here-self w ↦ other_number m n c.args.form c.args.revised c.args.line.now c.in_ok-here.here is (λ e. w.if-here-self.false (omega arith))
      | else-eq-via-then-eq+then-self-revised+else-here-gt0 w ↦ other_number m n c.args.form c.args.revised c.args.line.now c.in_ok-here.here is (λ e. let h = w.if-here-gt0.false in omega arith)
      | else-eq-via-then-eq+else-self-revised w ↦ other_revision m n c.args.form c.args.revised c.args.line.now c.in_ok-here.here is (let apart : c.args.self.now.message.revised ≡ c.args.revised → ⊥ = search rules in apart)
      | else-eq-via-else-eq w ↦ other_form m n c.args.form c.args.revised c.args.line.now c.in_ok-here.here is (sym (forms_alike m.form c.args.form) ∙ sym c.eq.ensures ∙ w.if-eq.false)
    ]
