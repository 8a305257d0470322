use Rattle.std.proofs.Common.{◌≡◌, ap, ◌∙◌, rules}
use Rattle.std.proofs.lemmas.Result.{err_from_is_err_and}
use Rattle.events.specs.Events.{fault}
use Rattle.events.proofs.Passes.{comes_err}
use Rattle.messages.specs.Models.{turned}
use Rattle.messages.specs.Ways.{map_ok}
use Rattle.refusals.specs.declared.Refusal.TheVariants.{Item}
use Rattle.logging.proofs.Following.{was_ok, was_err, took, took_full, took_refused}
use Rattle.logging.proofs.take_part.Goals as goal

pub returns-in_err-turn-clause-cases : goal.returns-in_err-turn-clause-cases
returns-in_err-turn-clause-cases g c =
    let p = err_from_is_err_and c.from_residual.result c.from_residual.ensures.1 in
    let q = was_err c.read_part.result c.map_err.result _ c.in_err-turn.field-0.0 c.in_err-turn.was c.map_err.ensures.cases in
    let f : c.in_err-turn.field-0.0 ≡ fault (Item q.0) c.place_of-place.result = search rules in
    comes_err _ _ _ _ p.1 (p.2 ∙ f) (took_refused _ _ _ q.0 c.place_of-place.ensures (ap (map_ok turned) q.1 ∙ c.read_part.ensures))

pub returns-in_err-log-clause-cases : goal.returns-in_err-log-clause-cases
returns-in_err-log-clause-cases g c =
    let p = err_from_is_err_and c.from_residual-in_err-log.result c.from_residual-in_err-log.ensures.1 in
    let r = was_ok c.read_part.result c.map_err.result _ c.in_ok-turn.turn c.in_ok-turn.was c.map_err.ensures.cases in
    comes_err _ _ _ _ p.1 p.2 (took_full _ _ _ (turned c.in_ok-turn.turn) c.place_of-place.ensures (ap (map_ok turned) r ∙ c.read_part.ensures) c.in_err-log.ensures.cases)

pub returns-clause-cases : goal.returns-clause-cases
returns-clause-cases g c =
    let r = was_ok c.read_part.result c.map_err.result _ c.in_ok-turn.turn c.in_ok-turn.was c.map_err.ensures.cases in
    took _ _ _ (turned c.in_ok-turn.turn) c.place_of-place.ensures (ap (map_ok turned) r ∙ c.read_part.ensures) c.in_ok-log.ensures.cases
