use Rattle.std.proofs.Common.{◌≡◌, ℕ, List, Some, None, Option, sym, ap, ◌∙◌, MatchOption}
use Rattle.record.specs.declared.record.Record.{Record}
use Rattle.record.specs.Entries.{Entry, entry}
use Rattle.record.specs.Validity.{Valid}
use Rattle.record.proofs.Valid.{valid}
use Rattle.line.specs.Lines.{line}
use Rattle.line.proofs.Apart.{tells_records_apart}
use Rattle.line.proofs.laws.read_again.Goals as goal

again : (r : Record) (l : List ℕ) (o : Option Record) → line (entry r) ≡ l → MatchOption o ((e : Entry) → Valid e → line e ≡ l → ⊥) (λ x. line (entry x) ≡ l) → o ≡ Some r
again r l None e h = absurd (h (entry r) (valid r) e)
again r l (Some x) e h = ap Some (tells_records_apart x r (h ∙ sym e))

pub returns : goal.returns
returns c = again c.args.record.now _ c.record_of.result (sym c.line_of.ensures) c.record_of.ensures
