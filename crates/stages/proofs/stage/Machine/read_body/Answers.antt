use Rattle.std.proofs.Common.{◌+◌, not, sym, refl, ap, ◌∙◌, arith}
use Rattle.std.proofs.lemmas.Result.{err_from_is_err_and}
use Rattle.events.proofs.Passes.{comes_err}
use Rattle.items.specs.Items.{body_items}
use Rattle.merging.specs.Merging.{filled, from_header, parts_ahead}
use Rattle.items.specs.Steps.{items_ahead}
use Rattle.items.specs.Words.{word_parts}
use Rattle.daylight.specs.Settings.{told}
use Rattle.messages.specs.Models.{common, reached}
use Rattle.reader.specs.Lines.{line_piece}
use Rattle.record.specs.Entries.{name}
use Rattle.record.specs.Stations.{station_of}
use Rattle.refusals.specs.declared.MessageRefusal.TheVariants as why
use Rattle.terms.specs.Standing.{standing}
use Rattle.stages.specs.Machines.{header_of}
use Rattle.stages.specs.Stages.{body, of_station, refuses}
use Rattle.stages.proofs.Moving.{line_refused, line_onto, line_read, line_stopped, body_unreadable, body_blank, body_refused, body_reads, word_not_blank, no_word_blank}
use Rattle.openings.proofs.Saying.{field_says}
use Rattle.stages.proofs.stage.Machine.read_body.Goals as goal

pub returns-in_err-checked-clause-cases : goal.returns-in_err-checked-clause-cases
returns-in_err-checked-clause-cases g c =
    let S = told g.R.Rule.daylight c.args.setting.now in
    let p = err_from_is_err_and c.from_residual.result c.from_residual.ensures.1 in
    let o = c.args.held in
    comes_err _ _ _ _ p.1 p.2 (line_refused S _ (body_unreadable (common o.message) (standing o.terms) (header_of c.args.self.now o.number) (line_piece c.args.line) c.in_err-checked.ensures.0 ∙ ap refuses (sym c.in_err-checked.ensures.1)) (why.Unreadable, ap (λ x. x.refusal) c.in_err-checked.ensures.1))

pub returns-then-is_none-clause-cases : goal.returns-then-is_none-clause-cases
returns-then-is_none-clause-cases g c =
    let S = told g.R.Rule.daylight c.args.setting.now in
    let o = c.args.held in
    line_onto S _ (body_blank (common o.message) (standing o.terms) (header_of c.args.self.now o.number) (line_piece c.args.line) c.in_ok-checked.ensures (no_word_blank word_parts c.next_word.result c.args.line.part.now c.next_word.ensures.value (c.is_none.ensures ∙ ap not c.if-is_none.true)))

pub returns-in_err-station-clause-cases : goal.returns-in_err-station-clause-cases
returns-in_err-station-clause-cases g c =
    let S = told g.R.Rule.daylight c.args.setting.now in
    let p = err_from_is_err_and c.from_residual-in_err-station.result c.from_residual-in_err-station.ensures.1 in
    let o = c.args.held in
    let l = line_piece c.args.line in
    let is = c.in_err-station.ensures.value c.requires in
    comes_err _ _ _ _ p.1 p.2 (line_refused S _ (body_refused (common o.message) (standing o.terms) (header_of c.args.self.now o.number) l _ c.in_ok-checked.ensures
    (word_not_blank word_parts c.next_word.result c.args.line.part.now c.next_word.ensures.value (c.is_none.ensures ∙ ap not c.if-is_none.false)) is) (field_says why.Station station_of l 0 _ is))

pub returns-in_err-read_parts-clause-cases : goal.returns-in_err-read_parts-clause-cases
returns-in_err-read_parts-clause-cases g c =
    let S = told g.R.Rule.daylight c.args.setting.now in
    let p = err_from_is_err_and c.from_residual-in_err-read_parts.result c.from_residual-in_err-read_parts.ensures.1 in
    let o = c.args.held in
    let l = line_piece c.args.line in
    let m = common o.message in
    let n = name c.in_ok-station.station in
    let from = c.in_ok-station.from in
    let hs = header_of c.args.self.now o.number in
    let own = c.of_body-own.ensures.placed (omega (arith, c.split_at.ensures.back_len, c.requires)) ∙ ap (body_items (c.args.line.place + from)) c.split_at.ensures.back in
    let at = c.new-parts.ensures ∙ ap (λ x. from_header (filled x) (items_ahead c.of_body-own.result)) c.new-header.ensures ∙ ap (from_header (filled hs)) own in
    comes_err _ _ _ _ p.1 p.2 (line_stopped S (of_station m n) (reached c.new.result) (parts_ahead c.new-parts.result) (λ _. body m (standing o.terms) hs)
    (body_reads m (standing o.terms) hs l (n, from) (reached c.new.result) (parts_ahead c.new-parts.result) c.in_ok-checked.ensures
    (word_not_blank word_parts c.next_word.result c.args.line.part.now c.next_word.ensures.value (c.is_none.ensures ∙ ap not c.if-is_none.false)) (c.in_ok-station.ensures.value c.requires) c.new.ensures at)
    c.in_err-read_parts.ensures.cases)

pub returns-clause-cases : goal.returns-clause-cases
returns-clause-cases g c =
    let S = told g.R.Rule.daylight c.args.setting.now in
    let o = c.args.held in
    let l = line_piece c.args.line in
    let m = common o.message in
    let n = name c.in_ok-station.station in
    let from = c.in_ok-station.from in
    let hs = header_of c.args.self.now o.number in
    let own = c.of_body-own.ensures.placed (omega (arith, c.split_at.ensures.back_len, c.requires)) ∙ ap (body_items (c.args.line.place + from)) c.split_at.ensures.back in
    let at = c.new-parts.ensures ∙ ap (λ x. from_header (filled x) (items_ahead c.of_body-own.result)) c.new-header.ensures ∙ ap (from_header (filled hs)) own in
    line_read S (of_station m n) (reached c.new.result) _ (parts_ahead c.new-parts.result) (λ _. body m (standing o.terms) hs) _
    (body_reads m (standing o.terms) hs l (n, from) (reached c.new.result) (parts_ahead c.new-parts.result) c.in_ok-checked.ensures
    (word_not_blank word_parts c.next_word.result c.args.line.part.now c.next_word.ensures.value (c.is_none.ensures ∙ ap not c.if-is_none.false)) (c.in_ok-station.ensures.value c.requires) c.new.ensures at)
    c.in_ok-read_parts.ensures.cases
    refl
