-- Valid entries with one line are one entry.
use Rattle.std.proofs.Common.{◌≡◌, ℕ, ◌+◌, ◌-◌, ◌*◌, ◌/◌, ◌%◌, ◌<◌, Bool, true, false, ltb, List, [], ◌++◌, get_or, IfSome, Some, None, Option, sym, refl, ap, ◌∙◌, arith}
use Rattle.std.proofs.lemmas.Bool.{and_parts, ltb-true}
use Rattle.std.proofs.lemmas.Bool.Decides.{nat_tests}
use Rattle.std.specs.Option.{option_map}
use Rattle.calendar.specs.Dates.{message_day}
use Rattle.instants.specs.Utc.{utc_time, utc_minute}
use Rattle.calendar.specs.declared.date.Date.{Date}
use Rattle.record.specs.Entries.{entry}
use Rattle.record.specs.Stations.{station_text}
use Rattle.record.proofs.Same.{one_record}
use Rattle.record.proofs.Valid.{valid}
use Rattle.record.specs.declared.series.Series.{Series}
use Rattle.record.specs.declared.series.Series.TheVariants.{Single, First, Later}
use Rattle.values.specs.Writing.{digits}
use Rattle.values.proofs.Back.{apart}
use Rattle.line.specs.Lines.{date_text, second_text, minute_text, or_blank, revision_sign, series_sign, line}
use Rattle.line.specs.Laws.{TellsApart, TellsRecordsApart}
use Rattle.line.proofs.Back.{Says, four_back, date_back, second_back, minute_back, message_writable}
use Rattle.line.proofs.Cut.{columns}
use Rattle.line.proofs.Durations.{duration_small}
use Rattle.line.proofs.Fields.{amount_held}

-- what two digits say, and four
abbrev said : List ℕ → ℕ → ℕ → ℕ
said l i j = (get_or l i 0 - 48) * 10 + (get_or l j 0 - 48)

says : (l : List ℕ) (i j : ℕ) → Says l i j (said l i j)
says l i j m h e =
    let a : 48 + m / 10 % 10 ≡ get_or l i 0 = ap (λ (k : List ℕ). get_or k 0 0) e in
    let b : 48 + m % 10 ≡ get_or l j 0 = ap (λ (k : List ℕ). get_or k 1 0) e in
    omega arith

abbrev number : List ℕ → ℕ
number l = said l 0 1 * 100 + said l 2 3

number_is : (l : List ℕ) (n : ℕ) (rest : List ℕ) → n < 10000 → digits 4 n ++ rest ≡ l → number l ≡ n
number_is l n rest h e = four_back l (said l 0 1) (said l 2 3) n rest (says l 0 1) (says l 2 3) h e

abbrev date_in : List ℕ → Date
date_in l = record { year = number l; month = said l 4 5; day = said l 6 7 }

date_is : (l : List ℕ) (d : Date) (rest : List ℕ) → message_day d ≡ true → date_text d ++ rest ≡ l → date_in l ≡ d
date_is l d rest h e = date_back l d rest (message_writable d h) e (number l) (said l 4 5) (said l 6 7) (number_is l) (says l 4 5) (says l 6 7)

second_is : (l : List ℕ) (t : Date × ℕ) → utc_time t.0 t.1 ≡ true → second_text t ≡ l → ◌≡◌ {A = Date × ℕ} (date_in l, said l 8 9 * 3600 + said l 10 11 * 60 + said l 12 13) t
second_is l t ok e =
    let parts = and_parts (message_day t.0) (ltb t.1 86400) ok in
    let n : ℕ = t.1 in
    let a = date_is l t.0 (digits 2 (n / 3600) ++ (digits 2 (n / 60 % 60) ++ digits 2 (n % 60))) parts.0 e in
    let b = second_back l t (said l 8 9) (said l 10 11) (said l 12 13) (ltb-true n 86400 parts.1) e (says l 8 9) (says l 10 11) (says l 12 13) in
    λ i. (a i, b i)

minute_is : (l : List ℕ) (t : Date × ℕ) → utc_minute t.0 t.1 ≡ true → minute_text t ≡ l → ◌≡◌ {A = Date × ℕ} (date_in l, said l 8 9 * 60 + said l 10 11) t
minute_is l t ok e =
    let parts = and_parts (message_day t.0) (ltb t.1 1440) ok in
    let n : ℕ = t.1 in
    let a = date_is l t.0 (digits 2 (n / 60) ++ digits 2 (n % 60)) parts.0 e in
    let b = minute_back l t (said l 8 9) (said l 10 11) (ltb-true n 1440 parts.1) e (says l 8 9) (says l 10 11) in
    λ i. (a i, b i)

abbrev Minute : Date × ℕ → Type 0
Minute m = utc_minute m.0 m.1 ≡ true

created_apart : (l : List ℕ) (s t : Option (Date × ℕ)) → IfSome s Minute → IfSome t Minute → l ≡ or_blank 12 (option_map minute_text s) → l ≡ or_blank 12 (option_map minute_text t) → s ≡ t
created_apart l None None h k e f = refl
created_apart l None (Some t) h k e f = absurd (omega (arith, ap (λ (l : List ℕ). get_or l 0 0) (sym e ∙ f)))
created_apart l (Some s) None h k e f = absurd (omega (arith, ap (λ (l : List ℕ). get_or l 0 0) (sym e ∙ f)))
created_apart l (Some s) (Some t) h k e f = ap Some (sym (minute_is l s h (sym e)) ∙ minute_is l t k (sym f))

abbrev Name : List ℕ → Type 0
Name text = station_text text ≡ true

source_apart : (l : List ℕ) (s t : Option (List ℕ)) → IfSome s Name → IfSome t Name → l ≡ or_blank 8 s → l ≡ or_blank 8 t → s ≡ t
source_apart l None None h k e f = refl
source_apart l None (Some t) h k e f = let z : false ≡ true = ap station_text (sym e ∙ f) ∙ k in absurd (grind (arith, nat_tests))
source_apart l (Some s) None h k e f = let z : false ≡ true = ap station_text (sym f ∙ e) ∙ h in absurd (grind (arith, nat_tests))
source_apart l (Some s) (Some t) h k e f = ap Some (sym e ∙ f)

revised_apart : (x : ℕ) (a b : Bool) → x ≡ revision_sign a → x ≡ revision_sign b → a ≡ b
revised_apart x true true e f = refl
revised_apart x false false e f = refl
revised_apart x true false e f = absurd (omega arith)
revised_apart x false true e f = absurd (omega arith)

series_apart : (x : ℕ) (a b : Series) → x ≡ series_sign a → x ≡ series_sign b → a ≡ b
series_apart x Single Single e f = refl
series_apart x First First e f = refl
series_apart x Later Later e f = refl
series_apart x Single First e f = absurd (omega arith)
series_apart x Single Later e f = absurd (omega arith)
series_apart x First Single e f = absurd (omega arith)
series_apart x First Later e f = absurd (omega arith)
series_apart x Later Single e f = absurd (omega arith)
series_apart x Later First e f = absurd (omega arith)

pub tells_apart : TellsApart
tells_apart d e v w h =
    let l : List ℕ = line e in
    let a = columns d l v h in
    let b = columns e l w refl in
    let station = sym a.station ∙ b.station in
    let observed = sym (second_is _ d.observed v.observed (sym a.observed)) ∙ second_is _ e.observed w.observed (sym b.observed) in
    let created = created_apart _ d.created e.created v.created w.created a.created b.created in
    let code = sym a.code ∙ b.code in
    let duration = sym (number_is _ d.duration [] (duration_small d.code d.duration v.duration) (sym a.duration)) ∙ number_is _ e.duration [] (duration_small e.code e.duration w.duration) (sym b.duration) in
    let value = apart d.value e.value (amount_held d.value v.value) (amount_held e.value w.value) (sym a.value ∙ b.value) in
    let qualifier = sym a.qualifier ∙ b.qualifier in
    let revised = revised_apart _ d.revised e.revised a.revised b.revised in
    let series = series_apart _ d.series e.series a.series b.series in
    let source = source_apart _ d.source e.source v.source w.source a.source b.source in
    λ i. record {
      station = station i;
      observed = observed i;
      created = created i;
      code = code i;
      duration = duration i;
      value = value i;
      qualifier = qualifier i;
      revised = revised i;
      series = series i;
      source = source i;
    }

pub tells_records_apart : TellsRecordsApart
tells_records_apart r s h = one_record r s (tells_apart (entry r) (entry s) (valid r) (valid s) h)
