use Rattle.std.proofs.Common.{◌≡◌, ℕ, ◌+◌, ◌-◌, ◌*◌, ◌/◌, refl, ap, ◌∙◌, inl, inr, arith}
use Rattle.std.proofs.lemmas.Bool.{cases_lt}
use Rattle.calendar.specs.Dates.{years_before}
use Rattle.calendar.proofs.Counting.{near_year, years_closed}
use Rattle.calendar.proofs.date.year_of.Goals as goal

abbrev guess : ℕ → ℕ
guess n = (n - 1) * 400 / 146097

pub overflow_sub-result : goal.overflow_sub-result
overflow_sub-result c = ((near_year c.args.ordinal (guess c.args.ordinal) c.requires.0 refl).low (omega arith)).0

pub returns-then-days_before-ordinal : goal.returns-then-days_before-ordinal
returns-then-days_before-ordinal c =
    let low = (near_year c.args.ordinal (guess c.args.ordinal) c.requires.0 refl).low (omega arith) in
    let back : guess c.args.ordinal - 1 + 1 ≡ guess c.args.ordinal = omega (arith, low.0) in
    record { after = low.1; before = omega (arith, ap years_before back); valid = omega arith }

pub returns-else-days_before-ordinal-2 : goal.returns-else-days_before-ordinal-2
returns-else-days_before-ordinal-2 c =
    let near = near_year c.args.ordinal (guess c.args.ordinal) c.requires.0 refl in
    record {
      after = omega arith;
      before = near.high;
      valid = elim (cases_lt (guess c.args.ordinal + 1) 10000) [
        | inl lt ↦ omega (arith, lt)
        | inr ge ↦
            let e : guess c.args.ordinal + 1 ≡ 10000 = omega arith in
            let y : years_before (guess c.args.ordinal + 1) ≡ 3652425 = ap years_before e ∙ years_closed 10000 in
            absurd (omega arith)
      ];
    }
