-- In English units an element counts only by whether it knows a trace, so what holds of two elements holds of any.
use Rattle.std.proofs.Common.{◌≡◌, ℕ, true, false, cond, [], ◌∷◌, ◌++◌, ℤ, Some, None, Ok, Option, sym, refl, ap, ◌∙◌}
use Rattle.quantity.specs.declared.element.Element.{Element}
use Rattle.quantity.specs.declared.units.Units.TheVariants.{English}
use Rattle.quantity.specs.Elements.{row}
use Rattle.values.specs.Numbers.{amount_of}
use Rattle.values.specs.Reading.{qualifier_of, number_of, amount_read, is_missing, is_trace, trace_read, read_for}
use Rattle.values.specs.Writing.{written, trim_start}
use Rattle.values.specs.Laws.{amount_english, read_english, ReadsEnglish, ReadsBackAny, ReadsAloneAny}
use Rattle.values.proofs.Again.{reads_back, reads_alone}

amount_same : (e : Element) (q : ℕ) (o : Option ℤ) → amount_read e English q o ≡ amount_english q o
amount_same e q None = refl
amount_same e q (Some z) = refl

pub reads_english : ReadsEnglish
unfolding read_for read_english
reads_english e text = ap (λ r. cond (is_missing text) (Ok (None, 90)) (cond (is_trace text) (trace_read e) r)) (amount_same e (qualifier_of text) (amount_of (number_of text)))

-- PP knows a trace, RI does not
abbrev tracing : Element
tracing = row 80 80 5 127 0 68 refl

abbrev untraced : Element
untraced = row 82 73 1 1 0 68 refl

pub reads_back_any : ReadsBackAny
reads_back_any true v q h big = sym (reads_english tracing (trim_start (written v) ++ q ∷ [])) ∙ reads_back tracing v q h big
reads_back_any false v q h big = sym (reads_english untraced (trim_start (written v) ++ q ∷ [])) ∙ reads_back untraced v q h big

pub reads_alone_any : ReadsAloneAny
reads_alone_any true v h = sym (reads_english tracing (trim_start (written v))) ∙ reads_alone tracing v h
reads_alone_any false v h = sym (reads_english untraced (trim_start (written v))) ∙ reads_alone untraced v h
