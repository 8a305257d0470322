-- What an item of a message does: it sets the terms, gives a code, gives a record, or is refused.
use Rattle.std.specs.Prelude.{ℕ, ◌+◌, ◌-◌, ◌^◌, min, Bool, true, false, cond, List, length, is_some, Some, None, Ok, Err, Option, Result, ◌==◌}
use Rattle.std.specs.Option.{ok_or}
use Rattle.calendar.specs.declared.date.Date.{Date}
use Rattle.terms.specs.declared.stage.Stage.{Stage}
use Rattle.terms.specs.declared.stage.Stage.TheVariants.{Free, BeforeSteps, AmongSteps}
use Rattle.terms.specs.Standing.{Standing}
use Rattle.terms.specs.Items.{after_item}
use Rattle.terms.specs.Observed.{observed_at}
use Rattle.merging.specs.Merging.{Sided, of_header, of_line, is_d}
use Rattle.items.specs.Words.{split_item}
use Rattle.quantity.specs.Codes.{code_of}
use Rattle.quantity.specs.Parameters.{parameter_of}
use Rattle.reader.specs.declared.kind.Form.{Form}
use Rattle.reader.specs.declared.kind.Form.TheVariants as form
use Rattle.record.specs.Entries.{Entry}
use Rattle.record.specs.declared.series.Series.{Series}
use Rattle.record.specs.declared.series.Series.TheVariants.{Single, First, Later}
use Rattle.refusals.specs.Faults.{refusal_of}
use Rattle.refusals.specs.declared.ItemRefusal.{ItemRefusal}
use Rattle.refusals.specs.declared.ItemRefusal.TheVariants.{DItem, Code, NoCodeOrInterval, NoDuration, NoTime}
use Rattle.values.specs.Reading.{Stated, read_value}
use Rattle.values.specs.declared.reading.ValueFault.{ValueFault}
use Rattle.daylight.specs.Settings.{Setting}
use Rattle.messages.specs.Models.{Common, Reached}
use Rattle.messages.specs.Ways.{then_ok}

-- how far the message has then come, and the record that the item gives, if any
abbrev pub Turned : Type 0
Turned = Result (Reached × Option Entry) ItemRefusal

abbrev pub silent : Reached → Turned
silent p = Ok (p, None)

abbrev pub is_empty : List ℕ → Bool
is_empty bytes = length bytes == 0

abbrev pub with_terms : Reached → Standing → Reached
with_terms p t = record { terms = t; code = p.code; steps = p.steps; begun = p.begun }

abbrev pub with_code : Reached → Option (List ℕ) → Reached
with_code p c = record { terms = p.terms; code = c; steps = p.steps; begun = p.begun }

-- a D item sets the terms
unfoldable pub d_item : Setting → Common → Reached → Stage → List ℕ → Turned
d_item S m p stage item = then_ok (ok_or (after_item S.today S.daylight m.zone stage item p.terms) DItem) (λ t. silent (with_terms p t))

-- what a value says, or its fault as the refusal of its item
abbrev pub item_refusal : Result Stated ValueFault → Result Stated ItemRefusal
item_refusal (Ok v) = Ok v
item_refusal (Err f) = Err (refusal_of f)

-- the full code that some signs mean
abbrev pub code_read : List ℕ → Result (List ℕ) ItemRefusal
code_read signs = ok_or (code_of signs) Code

-- the record of a value under a code: its duration first, then the value, then the time
unfoldable pub valued : (Date × ℕ → Bool) → Common → Standing → List ℕ → List ℕ → Series → ℕ → Result Entry ItemRefusal
valued daylight m t code bytes mark step =
    then_ok (ok_or (parameter_of code t.variable) NoDuration) (λ q.
    then_ok (item_refusal (read_value code t.units bytes)) (λ v.
    then_ok (ok_or (observed_at daylight m.zone t step) NoTime) (λ at.
    Ok (record {
      station = m.station;
      observed = at;
      created = t.created;
      code = q.0;
      duration = q.1;
      value = v.0;
      qualifier = v.1;
      revised = m.revised;
      series = mark;
      source = m.source;
    }))))

abbrev pub gives : Reached → Result Entry ItemRefusal → Turned
gives p r = then_ok r (λ e. Ok (p, Some e))

-- an item of .A: nothing, a D item, or a code and a value
unfoldable pub item_of_a : Setting → Common → Reached → List ℕ → Turned
item_of_a S m p item =
    cond (is_empty item) (silent p)
    (cond (is_d item) (d_item S m p Free item)
    (then_ok (code_read (split_item item).0) (λ code. gives p (valued S.daylight m p.terms code (split_item item).1 Single 0))))

-- steps are counted; no text has as many as 2^64
abbrev pub next_step : Reached → Bool → Reached
next_step p begun = record { terms = p.terms; code = p.code; steps = min (p.steps + 1) (2 ^ 64 - 1); begun = begun }

abbrev pub mark_of_step : Bool → Series
mark_of_step true = Later
mark_of_step false = First

-- a step of .E: an empty one gives nothing, any other needs an interval
unfoldable pub step_of_e : (Date × ℕ → Bool) → Common → Reached → List ℕ → List ℕ → Turned
step_of_e daylight m p code item =
    cond (is_empty item) (silent (next_step p p.begun))
    (cond (is_some p.terms.interval) (gives (next_step p true) (valued daylight m p.terms code item (mark_of_step p.begun) p.steps)) (Err NoCodeOrInterval))

abbrev pub stage_of : ℕ → Stage
stage_of steps = cond (steps == 0) BeforeSteps AmongSteps

-- the code of .E, which comes first
abbrev pub code_of_e : Reached → List ℕ → Turned
code_of_e p item = cond (is_empty item) (silent p) (then_ok (code_read item) (λ code. silent (with_code p (Some code))))

abbrev pub code_or_step : Setting → Common → Reached → Option (List ℕ) → List ℕ → Turned
code_or_step S m p None item = code_of_e p item
code_or_step S m p (Some code) item = step_of_e S.daylight m p code item

-- an item of .E: a D item, the code, or a step
unfoldable pub item_of_e : Setting → Common → Reached → List ℕ → Turned
item_of_e S m p item = cond (is_d item) (d_item S m p (stage_of p.steps) item) (code_or_step S m p p.code item)

-- an item of a .B header: nothing, a D item, or a code for the line's next value
unfoldable pub item_of_header : Setting → Common → Reached → List ℕ → Turned
item_of_header S m p item =
    cond (is_empty item) (silent p)
    (cond (is_d item) (d_item S m p Free item) (then_ok (code_read item) (λ code. silent (with_code p (Some code)))))

-- an item of a .B body line: an empty item or a value uses up the code
unfoldable pub item_of_body : Setting → Common → Reached → List ℕ → Turned
item_of_body S m p item =
    cond (is_empty item) (silent (with_code p None))
    (cond (is_d item) (d_item S m p Free item)
    (then_ok (ok_or p.code NoCodeOrInterval) (λ code. gives (with_code p None) (valued S.daylight m p.terms code item Single 0))))

abbrev pub item_of_line : Form → Setting → Common → Reached → List ℕ → Turned
item_of_line form.A = item_of_a
item_of_line form.B = item_of_body
item_of_line form.E = item_of_e

-- what an item does: the header's own, or one that stands in a line
abbrev pub turn : Setting → Common → Reached → Sided → Turned
turn S m p (of_header x) = item_of_header S m p x.1
turn S m p (of_line x) = item_of_line m.form S m p x.1
