-- What a turn of the trials counts, and what it leaves ahead.
use Rattle.std.proofs.Common.{◌≡◌, ℕ, ◌+◌, ◌-◌, ◌^◌, ◌<◌, ◌≤◌, List, Option, Some, None, MatchOption, length, arith, sym, subst}
use Rattle.std.proofs.Math.Nat.{le-min}
use Rattle.cases.specs.Lists.{count_of_cases, with_begun}
use Rattle.cases.proofs.Counts.{count-le-length}
use Rattle.reporting.specs.declared.tally.Tally.{Tally}
use Rattle.reporting.specs.Tallies.{both, capped}

-- the case that came is no more ahead
ahead_on : {A : Type 0} (found : Option A) (before behind : ℕ) → MatchOption found ((before ≡ 0) × (behind ≡ 0)) (λ _. before ≡ behind + 1) → with_begun found behind ≡ before
ahead_on None before behind h = sym h.0
ahead_on (Some case) before behind h = sym h

counted : (count n behind : ℕ) → count < 2 ^ 64 → count ≤ n + behind → count ≤ capped n + behind
counted count n behind fits h = let low : count - behind ≤ capped n = le-min (omega arith) (omega arith) in omega (arith, low)

-- one text more is counted where one case fewer is ahead
pub turned : {A : Type 0} (list : List ℕ) (was found : Option A) (case : A) (before behind : ℕ) (whole one sum : Tally) → length list < 2 ^ 64 → was ≡ Some case
    → MatchOption found ((before ≡ 0) × (behind ≡ 0)) (λ _. before ≡ behind + 1) → one.texts ≡ 1 → sum ≡ both whole one → count_of_cases list ≤ whole.texts + with_begun was before → count_of_cases list ≤ sum.texts + with_begun found behind
turned list was found case before behind whole one sum long came next is added h =
    let n = count_of_cases list in
    let held : n ≤ whole.texts + (before + 1) = subst (λ o. n ≤ whole.texts + with_begun o before) came h in
    let more : n ≤ (whole.texts + one.texts) + with_begun found behind = omega (arith, held, is, ahead_on found before behind next) in
    subst (λ t. n ≤ t.texts + with_begun found behind) (sym added) (counted n (whole.texts + one.texts) (with_begun found behind) (omega (arith, count-le-length list, long)) more)

-- where none is ahead all are counted, and they are a number that fits
pub all_counted : {A : Type 0} (list : List ℕ) (was : Option A) (before : ℕ) (whole : Tally) → length list < 2 ^ 64 → was ≡ None → count_of_cases list ≤ whole.texts + with_begun was before → (count_of_cases list ≤ whole.texts) × (count_of_cases list < 2 ^ 64)
all_counted list was before whole long came h =
    let n = count_of_cases list in
    let held : n ≤ whole.texts + 0 = subst (λ o. n ≤ whole.texts + with_begun o before) came h in
    (omega (arith, held), omega (arith, count-le-length list, long))
