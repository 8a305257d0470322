use Rattle.std.proofs.Common.{sym, ap, ◌∙◌}
use Rattle.std.proofs.lemmas.Slice.Eq.{slice_eq-Decides}
use Rattle.std.proofs.lemmas.Bool.Decides.{not_from_Decides, Decides-eqb}
use Rattle.values.specs.Numbers.{amount_of}
use Rattle.values.proofs.Strict.{no_amount, same_value}
use Rattle.values.proofs.column.parse_value.Goals as goal

pub returns-in_err-value : goal.returns-in_err-value
returns-in_err-value c =
    rw c.from_residual.ensures (λ v is. no_amount c.args.column.now v is (c.in_err-value.ensures ∙ ap amount_of c.trim_start.ensures))

pub returns-else-eq : goal.returns-else-eq
returns-else-eq c v is =
    let e = same_value c.args.column.now v is c.in_ok-value.value (c.in_ok-value.ensures ∙ ap amount_of c.trim_start.ensures) in
    not_from_Decides _ (slice_eq-Decides Decides-eqb _ _ _ c.eq.ensures) c.if-eq.false (e ∙ sym (c.as_slice.ensures ∙ c.value_text.ensures))
