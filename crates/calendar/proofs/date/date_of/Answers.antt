use Rattle.std.proofs.Common.{◌≡◌, sym, ap, ◌∙◌, arith, rules}
use Rattle.calendar.specs.declared.date.Date.{Date}
use Rattle.calendar.specs.Dates.{months_before, date_of}
use Rattle.calendar.proofs.Counting.{month_more, month_first, months_all, year_more}
use Rattle.calendar.proofs.Dates.{date_of-number, real_parts, real_from}
use Rattle.calendar.proofs.date.date_of.Goals as goal

pub returns-then-not-contains : goal.returns-then-not-contains
unfolding date_of
returns-then-not-contains c = search rules

pub loop-month-init : goal.loop-month-init
loop-month-init c =
    let first = month_first c.year_of-year.result in
    (omega (arith, c.year_of-year.ensures.after), omega (arith, c.year_of-year.ensures.after))

pub returns-then-day-length : goal.returns-then-day-length
returns-then-day-length c =
    let d : Date = record { year = c.year_of-year.result; month = c.loop-month.month; day = c.loop-month.day } in
    let is = real_from d c.year_of-year.ensures.valid c.loop-month.invariant.0 (omega arith) in
    sym (ap date_of (sym c.loop-month.invariant.1) ∙ date_of-number d (real_parts d is))

pub loop-month-preserved : goal.loop-month-preserved
loop-month-preserved c =
    let more = month_more c.year_of-year.result c.loop-month.month in
    (omega arith, omega arith)

pub returns : goal.returns
returns c =
    let end : c.loop-month.month ≡ 13 = omega arith in
    let months : months_before c.year_of-year.result c.loop-month.month ≡ months_before c.year_of-year.result 13 = ap (months_before c.year_of-year.result) end in
    absurd (omega (arith, months_all c.year_of-year.result, year_more c.year_of-year.result, c.year_of-year.ensures.before, c.loop-month.invariant))
