-- What tallies add up to, and how they are printed.
use Rattle.std.specs.Prelude.{ℕ, ◌+◌, ◌-◌, ◌^◌, min, List, ◌++◌, codes}
use Rattle.std.specs.Fmt.{decimal}
use Rattle.reporting.specs.declared.tally.Tally.{Tally}

-- a count that does not fit is the greatest one
abbrev pub capped : ℕ → ℕ
capped n = min n (2 ^ 64 - 1)

abbrev pub both : Tally → Tally → Tally
both a b =
    record { texts = capped (a.texts + b.texts); records = capped (a.records + b.records); faults = capped (a.faults + b.faults); differing = capped (a.differing + b.differing) }

-- the records, the faults and the texts that came out otherwise
abbrev pub tally_text : Tally → List ℕ
tally_text t =
    decimal t.records ++ codes " records, " ++ decimal t.faults ++ codes " faults, " ++ decimal t.differing ++ codes " differing"
