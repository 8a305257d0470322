use Rattle.std.proofs.Common.{rules, None, ◌≡◌, ◌^◌, ◌<◌, ◌≤◌, length}
use Rattle.cases.specs.Lists.{cases_ahead, count_of_cases}
use Rattle.trials.proofs.Turns.{turned, all_counted}
use Rattle.trials.proofs.try_list.Goals as goal

pub loop-ahead-preserved-in_ok-try_damaged : goal.loop-ahead-preserved-in_ok-try_damaged
loop-ahead-preserved-in_ok-try_damaged g c =
    let long : length c.args.list.now < 2 ^ 64 = search rules in
    turned c.args.list.now c.loop-ahead.ahead c.in_ok-ahead-2.ahead c.in-Some.case (cases_ahead c.loop-ahead.cases) (cases_ahead c.next_case-in-Some.new.self) c.loop-ahead.whole c.in_ok-try_case.field-0 c.add-whole.result long c.in-Some.is c.in_ok-ahead-2.ensures.given c.in_ok-try_case.ensures c.add-whole.ensures c.loop-ahead.invariant

pub loop-ahead-preserved : goal.loop-ahead-preserved
loop-ahead-preserved g c =
    let long : length c.args.list.now < 2 ^ 64 = search rules in
    turned c.args.list.now c.loop-ahead.ahead c.in_ok-ahead-2.ahead c.in-Some.case (cases_ahead c.loop-ahead.cases) (cases_ahead c.next_case-in-Some.new.self) c.loop-ahead.whole c.in_ok-try_case.field-0 c.add-whole.result long c.in-Some.is c.in_ok-ahead-2.ensures.given c.in_ok-try_case.ensures c.add-whole.ensures c.loop-ahead.invariant

-- all others only add to the texts
pub returns : goal.returns
returns g c =
    let long : length c.args.list.now < 2 ^ 64 = search rules in
    let none : c.loop-ahead.ahead ≡ None = search rules in
    let all = all_counted c.args.list.now c.loop-ahead.ahead (cases_ahead c.loop-ahead.cases) c.loop-ahead.whole long none c.loop-ahead.invariant in
    let counted : count_of_cases c.args.list.now ≤ c.loop-ahead.whole.texts = all.0 in
    let fits : count_of_cases c.args.list.now < 2 ^ 64 = all.1 in
    search rules
