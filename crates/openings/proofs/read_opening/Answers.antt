use Rattle.std.proofs.Common.{None, Ok, Err, ap, ◌∙◌}
use Rattle.std.proofs.lemmas.Result.{err_from_is_err_and}
use Rattle.calendar.specs.Messages.{message_date}
use Rattle.messages.specs.Ways.{map_ok}
use Rattle.reader.specs.declared.split.Line.{Line}
use Rattle.reader.specs.Lines.{line_piece}
use Rattle.record.specs.Entries.{name}
use Rattle.record.specs.Stations.{station_of}
use Rattle.refusals.specs.declared.MessageRefusal.TheVariants as why
use Rattle.terms.specs.Standing.{Standing}
use Rattle.openings.specs.Found.{opened_as}
use Rattle.openings.specs.Openings.{Opened, field, zone_field}
use Rattle.openings.proofs.Opens.{no_station, no_date, opens}
use Rattle.openings.proofs.read_opening.Goals as goal

pub returns-in_err-station-clause-value : goal.returns-in_err-station-clause-value
returns-in_err-station-clause-value c =
    let p = err_from_is_err_and c.from_residual-in_err-station.result c.from_residual-in_err-station.ensures.1 in
    let l = line_piece c.args.line in
    λ fits. ap (map_ok opened_as) (p.1 ∙ ap Err p.2) ∙ no_station c.args.today c.args.form c.args.revised l _ (c.in_err-station.ensures.value ∙ ap (field why.Station station_of l) c.letters_len.ensures.value)

pub returns-in_err-date-clause-value : goal.returns-in_err-date-clause-value
returns-in_err-date-clause-value c =
    let p = err_from_is_err_and c.from_residual-in_err-date.result c.from_residual-in_err-date.ensures.1 in
    let l = line_piece c.args.line in
    λ fits. ap (map_ok opened_as) (p.1 ∙ ap Err p.2) ∙ no_date c.args.today c.args.form c.args.revised l _ (name c.in_ok-station.station, c.station.new.self.from)
    (c.in_ok-station.ensures.value ∙ ap (field why.Station station_of l) c.letters_len.ensures.value)
    (c.in_err-date.ensures.value ∙ ap (λ k. field why.Date (λ w. message_date w c.args.today) (line_piece k) c.station.new.self.from) c.station.ensures.same)

pub returns-clause-value : goal.returns-clause-value
returns-clause-value c =
    let l = line_piece c.args.line in
    let under : Standing → Opened = λ t. record {
      common = record { form = c.args.form; revised = c.args.revised; zone = c.zone-zone.result; station = name c.in_ok-station.station; source = None };
      terms = t;
      start = c.zone-zone.new.self.from;
    } in
    λ fits. ap (λ t. Ok (under t)) c.opening.ensures ∙ opens c.args.today c.args.form c.args.revised l (name c.in_ok-station.station, c.station.new.self.from) (c.in_ok-date.date, c.date.new.self.from) (c.zone-zone.result, c.zone-zone.new.self.from)
    (c.in_ok-station.ensures.value ∙ ap (field why.Station station_of l) c.letters_len.ensures.value)
    (c.in_ok-date.ensures.value ∙ ap (λ k. field why.Date (λ w. message_date w c.args.today) (line_piece k) c.station.new.self.from) c.station.ensures.same)
    (c.zone-zone.ensures.value ∙ ap (λ (k : Line). zone_field k.part.now c.date.new.self.from) (c.date.ensures.same ∙ c.station.ensures.same))
