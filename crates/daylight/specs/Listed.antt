-- The daylight of a list of change days: the first entry for the year counts, and an unlisted year has none.
use Rattle.std.specs.Prelude.{ℕ, Bool, false, cond, List, [], ◌∷◌, ◌==◌}
use Rattle.calendar.specs.declared.date.Date.{Date}
use Rattle.daylight.specs.declared.list_rule.Change.{Change}
use Rattle.daylight.specs.Spans.{between}

abbrev pub list_daylight : List Change → Date × ℕ → Bool
list_daylight [] r = false
list_daylight (c ∷ cs) r = cond (c.year == r.0.year) (between c.first c.last r) (list_daylight cs r)
