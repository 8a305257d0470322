use Rattle.std.proofs.Common.{ℕ, ◌+◌, ◌-◌, [], ◌∷◌, ◌∙◌, rules}
use Rattle.std.specs.List.{filter_map}
use Rattle.calendar.specs.Dates.{number}
use borrow.Author.Tests.{tests}
use Rattle.std.proofs.lemmas.Iterator.{YieldsList-from_slice}
use Rattle.std.proofs.lemmas.Iterator.Consumers.{YieldsList-from_filter_map}
use Rattle.calendar.specs.Messages.{candidate, nearest_date}
use Rattle.calendar.proofs.Picked.{three, picked}
use Rattle.calendar.proofs.message.nearest_date.Goals as goal

pub returns : goal.returns
unfolding nearest_date
returns c =
    let cur = c.args.current in
    let day = λ (y : ℕ). candidate y c.args.month c.args.day in
    let years = (cur.year - 1) ∷ cur.year ∷ (cur.year + 1) ∷ [] in
    picked _ _ (number cur) (λ x k q called. search (rules, tests)) _ _ (filter_map day years) _ c.min_by_key.ensures.ran
    (YieldsList-from_filter_map _ day (YieldsList-from_slice years cc) c.filter_map.ensures.closure (λ x r q k. search (rules, tests)))
    ∙ three (number cur) (day (cur.year - 1)) (day cur.year) (day (cur.year + 1))
