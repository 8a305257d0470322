use Rattle.std.proofs.Common.{rules, ◌≡◌, ◌+◌, flat_map, length, min, ◌*◌, ◌/◌, ap, ◌∙◌}
use Rattle.std.proofs.Math.Nat.{mul-div_cancel}
use Rattle.events.specs.Events.{met, records}
use Rattle.daylight.specs.Settings.{setting}
use Rattle.daylight.specs.Sundays.{law_daylight}
use Rattle.line.specs.Lines.{line}
use Rattle.shef.specs.Decodes.{answer_of, counted, decoded, delivered}
use Rattle.sink.specs.Listings.{listed}
use Rattle.sink.specs.Logs.{of_slots, put_all}
use Rattle.sink.proofs.Puts.{taken}
use Rattle.slots.specs.Lists.{slots_room}
use Rattle.agreement.proofs.Compared.{by_rules}
use Rattle.agreement.proofs.compare.Goals as goal

pub returns : goal.returns
returns c =
    let S = setting c.args.today (λ r. law_daylight r) in
    let text = c.args.text.now in
    let many = min c.args.room (length text + 1) in
    let es = decoded S text in
    let end = c.decode-answer.ensures in
    let least : c.min-room.result ≡ many = search rules in
    let size : c.in_ok-size.size ≡ many * 80 = search rules in
    let bytes : length c.deref_mut.result.now ≡ c.in_ok-size.size = search rules in
    let wide : (listed c.new-log.result).room ≡ many = c.new-log.ensures.room ∙ ap (λ n. n / 80) (bytes ∙ size) ∙ mul-div_cancel many {n = 80} (search rules) in
    let long : slots_room c.new-faults.result ≡ length text + 2 = search rules in
    let logged = taken (listed c.new-log.result) (listed c.decode-answer.new.sink) many (records es) c.new-log.ensures.empty wide end.sink in
    let noted = taken (of_slots c.new-faults.result) (of_slots c.decode-answer.new.faults) (length text + 2) (met many es) c.new-faults.ensures.empty long (end.list ∙ ap (λ n. put_all (of_slots c.new-faults.result) (met n es)) wide) in
    rw (← by_rules S many text c.args.outcome.now c.decode-answer.result c.lines.result.now c.as_slice.result.now (c.lines.ensures ∙ ap (flat_map line) logged) (c.as_slice.ensures ∙ noted) (end.number ∙ ap (λ n. answer_of S n text) wide) (end.delivered ∙ ap (λ n. delivered n es) wide) (end.found ∙ ap (λ n. counted (length (met n es))) wide)) c.same_outcome.ensures
