use Rattle.std.proofs.Common.{◌≡◌, drop}
use Rattle.daylight.specs.Listed.{list_daylight}
use Rattle.daylight.proofs.list_rule.ListRuleRule.is_daylight.Given as goal

abbrev pub invariant-loop-change : goal.invariant-loop-change
invariant-loop-change l = list_daylight (drop l.change-index l.self.changes.now) l.reading ≡ list_daylight l.self.changes.now l.reading
