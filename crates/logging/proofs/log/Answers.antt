use Rattle.std.proofs.Common.{ap, rules}
use Rattle.std.specs.Option.{option_map}
use Rattle.record.specs.Entries.{entry}
use Rattle.logging.proofs.Following.{put_or_full}
use Rattle.logging.proofs.log.Goals as goal

pub returns-in-Some-clause-cases : goal.returns-in-Some-clause-cases
returns-in-Some-clause-cases g c =
    put_or_full g.S.Sink.holds c.args.place _ _ c.put.result c.map_err.result _ (ap (option_map entry) c.in-Some.is) c.put.ensures.holds c.put.ensures.fits c.map_err.ensures.cases (λ x f p. search rules)
