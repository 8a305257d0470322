use Rattle.std.proofs.Common.{[], ◌∷◌, set, refl, ap, ◌∙◌, arith}
use Rattle.std.proofs.lemmas.List.{set_at}
use Rattle.std.specs.Option.{option_map}
use Rattle.record.specs.Entries.{entry}
use Rattle.record.proofs.Valid.{valid}
use Rattle.values.specs.Writing.{digits, written}
use Rattle.line.specs.Lines.{second_text, minute_text, or_blank, revision_sign, series_sign, line}
use Rattle.line.proofs.Placing.{first, next}
use Rattle.line.proofs.Widths.{station_long, code_long, value_long, created_long, source_long, ten}
use Rattle.line.proofs.write.line_of.Goals as goal

pub returns : goal.returns
unfolding line
returns c =
    let r = c.args.record.now in
    let e = entry r in
    let v = valid r in
    let s1 = first 80 8 _ e.station refl c.put_bytes.ensures refl (station_long _ v.station) in
    let s2 = next 9 14 _ (second_text e.observed) s1 c.put_bytes-2.ensures c.second_text.ensures refl refl (omega arith) in
    let s3 = next 24 12 _ (or_blank 12 (option_map minute_text e.created)) s2 c.put_bytes-3.ensures c.created_text.ensures (created_long e.created) refl (omega arith) in
    let s4 = next 37 7 _ e.code s3 c.put_bytes-4.ensures refl (code_long _ v.code) refl (omega arith) in
    let s5 = next 45 4 _ (digits 4 e.duration) s4 c.put_bytes-5.ensures (c.digits.ensures ∙ ap (digits 4) c.from.ensures) refl refl (omega arith) in
    let s6 = next 50 14 _ (written e.value) s5 c.put_bytes-6.ensures c.value_text.ensures (value_long e.value) refl (omega arith) in
    let s7 = next 65 1 _ (e.qualifier ∷ []) s6 c.put_bytes-7.ensures refl refl refl (omega arith) in
    let s8 = next 67 1 _ (revision_sign e.revised ∷ []) s7 c.put_bytes-8.ensures (ap (λ b. b ∷ []) c.revision_sign.ensures) refl refl (omega arith) in
    let s9 = next 69 1 _ (series_sign e.series ∷ []) s8 c.put_bytes-9.ensures (ap (λ b. b ∷ []) c.series_sign.ensures) refl refl (omega arith) in
    let s10 = next 71 8 _ (or_blank 8 e.source) s9 c.put_bytes-10.ensures c.source_text.ensures (source_long e.source v.source) refl (omega arith) in
    ap (λ l. set l 79 10) s10.is ∙ set_at _ 32 [] 10 79 s10.long
    ∙ ten e.station (second_text e.observed) (or_blank 12 (option_map minute_text e.created)) e.code (digits 4 e.duration) (written e.value) (e.qualifier ∷ []) (revision_sign e.revised ∷ []) (series_sign e.series ∷ []) (or_blank 8 e.source)
