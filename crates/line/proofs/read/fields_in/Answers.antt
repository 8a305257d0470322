use Rattle.std.proofs.Common.{◌≡◌, ℕ, List, Some, sym, ap, ◌∙◌}
use Rattle.quantity.specs.Codes.{full_code, duration_fits}
use Rattle.record.specs.Entries.{Entry}
use Rattle.line.proofs.Cut.{columns}
use Rattle.line.proofs.Fields.{none-some, some_same, name_back, letter_back, source_back, revised_back, value_back, no_value}
use Rattle.line.proofs.read.fields_in.Goals as goal

pub returns-in_err-station : goal.returns-in_err-station
returns-in_err-station c e v h =
    let at = columns e c.args.line.now v h in
    none-some (c.in_err-station.ensures ∙ name_back _ e.station at.station v.station)

pub returns-in_err-observed : goal.returns-in_err-observed
returns-in_err-observed c e v h =
    let at = columns e c.args.line.now v h in
    none-some (c.in_err-observed.ensures e.observed v.observed (sym at.observed))

pub returns-in_err-parameter : goal.returns-in_err-parameter
returns-in_err-parameter c e v h =
    let at = columns e c.args.line.now v h in
    none-some (c.in_err-parameter.ensures e.duration (ap full_code at.code ∙ v.code) (ap (λ (l : List ℕ). duration_fits l e.duration) at.code ∙ v.duration) (sym at.duration))

pub returns-in_err-value : goal.returns-in_err-value
returns-in_err-value c e v h =
    let at = columns e c.args.line.now v h in
    absurd (no_value _ e.value v.value at.value c.in_err-value.ensures)

pub returns-in_err-qualifier : goal.returns-in_err-qualifier
returns-in_err-qualifier c e v h =
    let at = columns e c.args.line.now v h in
    none-some (c.in_err-qualifier.ensures ∙ letter_back _ e.qualifier at.qualifier v.qualifier)

pub returns : goal.returns
returns c e v h =
    let at = columns e c.args.line.now v h in
    let station = some_same (c.in_ok-station.ensures ∙ name_back _ e.station at.station v.station) in
    let observed = some_same (c.in_ok-observed.ensures e.observed v.observed (sym at.observed)) in
    let created = c.minute_in-created.ensures e.created v.created (sym at.created) in
    let parameter = some_same (c.in_ok-parameter.ensures e.duration (ap full_code at.code ∙ v.code) (ap (λ (l : List ℕ). duration_fits l e.duration) at.code ∙ v.duration) (sym at.duration)) in
    let code = ap (λ (p : List ℕ × ℕ). p.0) parameter ∙ at.code in
    let duration = ap (λ (p : List ℕ × ℕ). p.1) parameter in
    let value = value_back _ e.value c.in_ok-value.value v.value at.value c.in_ok-value.ensures in
    let qualifier = some_same (c.in_ok-qualifier.ensures ∙ letter_back _ e.qualifier at.qualifier v.qualifier) in
    let revised = revised_back _ e.revised at.revised in
    let series = c.series_in-series.ensures e.series (sym at.series) in
    let source = c.name_in-source.ensures ∙ source_back _ e.source at.source v.source in
    let same : ◌≡◌ {A = Entry} _ e = λ i. record {
      station = station i;
      observed = observed i;
      created = created i;
      code = code i;
      duration = duration i;
      value = value i;
      qualifier = qualifier i;
      revised = revised i;
      series = series i;
      source = source i;
    } in
    ap Some same
