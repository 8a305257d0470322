use Rattle.std.proofs.Common.{◌/◌, ◌%◌, ltb, ◌++◌, ◌∙◌, arith}
use Rattle.std.proofs.lemmas.Bool.{and_parts, ltb-true}
use Rattle.calendar.specs.Dates.{message_day}
use Rattle.instants.specs.Utc.{utc_time}
use Rattle.values.specs.Writing.{digits}
use Rattle.line.proofs.Back.{second_back, message_writable, made}
use Rattle.line.proofs.columns.second_in.Goals as goal

pub returns : goal.returns
returns c t ok e =
    let parts = and_parts (message_day t.0) (ltb t.1 86400) ok in
    let n = t.1 in
    let date = c.date_in-date.ensures t.0 (digits 2 (n / 3600) ++ (digits 2 (n / 60 % 60) ++ digits 2 (n % 60))) (message_writable t.0 parts.0) e in
    let back = second_back c.args.column.now t c.pair.result c.pair-2.result c.pair-3.result (ltb-true n 86400 parts.1) e c.pair.ensures.says c.pair-2.ensures.says c.pair-3.ensures.says in
    c.new.ensures ∙ made utc_time _ t.0 _ n date (omega arith) ok
