use Rattle.std.proofs.Common.{ℕ, ◌/◌, ◌%◌, ltb, List, ◌++◌, get_or, Some, None, sym, refl, ap, ◌∙◌, arith}
use Rattle.std.proofs.lemmas.Bool.{and_parts, ltb-true}
use Rattle.calendar.specs.Dates.{message_day}
use Rattle.instants.specs.Utc.{utc_minute}
use Rattle.values.specs.Writing.{digits}
use Rattle.line.proofs.Back.{minute_back, message_writable, made}
use Rattle.line.proofs.columns.minute_in.Goals as goal

pub returns-then-column-eq32 : goal.returns-then-column-eq32
returns-then-column-eq32 c None ok e = refl
returns-then-column-eq32 c (Some t) ok e = absurd (omega (arith, ap (λ (l : List ℕ). get_or l 0 0) e, c.if-column-eq32.true))

pub returns : goal.returns
returns c None ok e = absurd (c.if-column-eq32.false (sym (ap (λ (l : List ℕ). get_or l 0 0) e)))
returns c (Some t) ok e =
    let parts = and_parts (message_day t.0) (ltb t.1 1440) ok in
    let n = t.1 in
    let date = c.date_in-date.ensures t.0 (digits 2 (n / 60) ++ digits 2 (n % 60)) (message_writable t.0 parts.0) e in
    let back = minute_back c.args.column.now t c.pair.result c.pair-2.result (ltb-true n 1440 parts.1) e c.pair.ensures.says c.pair-2.ensures.says in
    c.new.ensures ∙ made utc_minute _ t.0 _ n date (omega arith) ok
