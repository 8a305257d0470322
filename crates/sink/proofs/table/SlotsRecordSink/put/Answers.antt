use Rattle.std.proofs.Common.{map, ap, ◌∙◌, arith}
use Rattle.std.proofs.lemmas.Result.{MatchResult-weaker}
use Rattle.slots.specs.Lists.{held, slots_room}
use Rattle.record.specs.declared.record.Record.{Record}
use Rattle.record.specs.Entries.{entry}
use Rattle.sink.specs.Logs.{Log, log}
use Rattle.sink.proofs.Grown.{push_grown}
use Rattle.sink.proofs.Puts.{puts, mapped_put, numbered}
use Rattle.sink.proofs.table.SlotsRecordSink.put.Goals as goal

pub returns : goal.returns
returns c =
    let s = c.args.self.now in
    let t = c.push.new.self in
    let cases = c.push.ensures.cases in
    record {
      holds = ap (λ (l : Log Record). log (map entry l.entries) l.room) (puts c.push.result s t c.args.record _ cases) ∙ mapped_put entry (held s) (slots_room s) c.args.record;
      fits = MatchResult-weaker c.push.result cases (λ _ h. omega (arith, h.1)) (λ _ h. h);
      number = numbered c.push.result (slots_room s) (MatchResult-weaker c.push.result cases (λ _ h. omega (arith, h.1)) (λ _ h. h.0));
      frame = push_grown c.push.result s t c.args.record cases c.push.ensures.lent;
    }
