use Rattle.std.proofs.Common.{rules}
use Rattle.reader.specs.Lines.{line_piece}
use Rattle.record.specs.Entries.{name as name_of}
use Rattle.record.specs.Stations.{station_of}
use Rattle.refusals.specs.declared.MessageRefusal.TheVariants as why
use Rattle.std.proofs.lemmas.Result.{IfOk-weaker}
use Rattle.openings.specs.Openings.{word_at}
use Rattle.openings.proofs.Opens.{field_is}
use Rattle.openings.proofs.fields.Fields.station.Goals as goal

pub returns-clause-value : goal.returns-clause-value
returns-clause-value c =
    let read = c.field.ensures.value in
    let l = line_piece c.args.self.now.line in
    field_is name_of why.Station read.0 station_of l c.args.self.now.from _ c.field.result read.1.0 (IfOk-weaker (word_at why.Station l c.args.self.now.from) _ _ (λ w h. search rules) read.1.1)
