-- How far apart the steps of a series lie. Assumes nothing.
use Rattle.std.proofs.Common.{◌≡◌, ℕ, ◌+◌, ◌*◌, ◌<◌, Bool, true, false, cond, eqb, ℤ, pos, ◌+ℤ◌, ◌*ℤ◌, Some, None, Option, sym, refl, ap, ◌∙◌, subst, ne_eqb, arith}
use Rattle.std.proofs.lemmas.Int.{ints}
use Rattle.calendar.specs.declared.date.Date.{Date}
use Rattle.calendar.specs.Dates.{real, number}
use Rattle.calendar.specs.Ways.{and_then}
use Rattle.instants.specs.declared.moves.Move.{Move}
use Rattle.instants.specs.declared.moves.Unit as the_unit
use Rattle.instants.specs.declared.moves.Unit.TheVariants.{Second, Minute, Hour, Day, Month, Year, MonthEnd}
use Rattle.instants.specs.Moves.{instant, moved}
use Rattle.instants.specs.Moving.{AtInstant, AtDay}
use Rattle.instants.proofs.Moving.{moving}
use Rattle.daylight.specs.declared.zone.Zone.{Zone}
use Rattle.daylight.specs.Utc.{to_utc, Behind}
use Rattle.daylight.specs.Zones.{seconds_behind, keeps_daylight}
use Rattle.daylight.proofs.Later.{utc_is_later}
use Rattle.ditems.specs.declared.groups.Groups.{Groups}
use Rattle.ditems.specs.Readings.{reading_of}
use Rattle.terms.specs.Observed.{shifted, step_reading, observed_at}
use Rattle.terms.specs.Settings.{moved_by}
use Rattle.terms.specs.Standing.{Standing}
use Rattle.terms.specs.StepTimes.{unit_seconds, LiesBehind, StepTimes}
use Rattle.terms.specs.TermLaws.{SameTime}

abbrev Reading : Type 0
Reading = Date × ℕ

-- in seconds, and in days
by_line : (r w : Reading) (z : ℤ) (o : Option Reading) → o ≡ Some w → AtInstant (pos (instant r) +ℤ z) o → LiesBehind z r w
by_line r w z None e h = cc
by_line r w z (Some x) e h = let same : x ≡ w = cc in ap (λ (y : Reading). pos (instant y)) (sym same) ∙ h.2

in_days : (a b s : ℕ) (z : ℤ) → pos b ≡ pos a +ℤ z → pos (b * 86400 + s) ≡ pos (a * 86400 + s) +ℤ pos 86400 *ℤ z
in_days a b s z h = omega (arith, ints)

by_day : (r w : Reading) (z : ℤ) (o : Option Reading) → o ≡ Some w → AtDay r.1 (pos (number r.0) +ℤ z) o → LiesBehind (pos 86400 *ℤ z) r w
by_day r w z None e h = cc
by_day r w z (Some x) e h =
    let same : x ≡ w = cc in
    ap (λ (y : Reading). pos (instant y)) (sym same) ∙ ap (λ s. pos (number x.0 * 86400 + s)) h.1 ∙ in_days (number r.0) (number x.0) r.1 z h.2

one_second : (z : ℤ) → z ≡ pos 1 *ℤ z
one_second z = omega (arith, ints)

moved_on : (u : the_unit.Unit) (n : ℕ) (r w : Reading) (z : ℤ) → unit_seconds u ≡ Some n → real r.0 ≡ true → moved r u z ≡ Some w → LiesBehind (pos n *ℤ z) r w
moved_on Second n r w z e is h = let one : 1 ≡ n = cc in by_line r w z (moved r Second z) h (moving.seconds r z is) ∙ ap (λ y. pos (instant r) +ℤ y) (one_second z ∙ ap (λ k. pos k *ℤ z) one)
moved_on Minute n r w z e is h = let one : 60 ≡ n = cc in by_line r w (pos 60 *ℤ z) (moved r Minute z) h (moving.minutes r z is) ∙ ap (λ k. pos (instant r) +ℤ pos k *ℤ z) one
moved_on Hour n r w z e is h = let one : 3600 ≡ n = cc in by_line r w (pos 3600 *ℤ z) (moved r Hour z) h (moving.hours r z is) ∙ ap (λ k. pos (instant r) +ℤ pos k *ℤ z) one
moved_on Day n r w z e is h = let one : 86400 ≡ n = cc in by_day r w z (moved r Day z) h (moving.days r z is) ∙ ap (λ k. pos (instant r) +ℤ pos k *ℤ z) one
moved_on Month n r w z e is h = cc
moved_on Year n r w z e is h = cc
moved_on MonthEnd n r w z e is h = cc

-- and in UTC, by the same distance
utc_later : (r p : Reading) (zone : Zone) (b : Bool) (o : Option Reading) → o ≡ Some p → Behind r (seconds_behind zone b) o → (real r.0 ≡ true) × (instant p ≡ instant r + seconds_behind zone b)
utc_later r p zone b None e h = cc
utc_later r p zone b (Some x) e h = let same : x ≡ p = cc in (h.0, ap instant (sym same) ∙ h.2)

carried : (a b c d k : ℕ) (z : ℤ) → pos b ≡ pos a +ℤ z → c ≡ a + k → d ≡ b + k → pos d ≡ pos c +ℤ z
carried a b c d k z h e f = omega (arith, ints)

apart : (u : the_unit.Unit) (n : ℕ) (z : ℤ) (r w p q : Reading) (zone : Zone) (b : Bool) → unit_seconds u ≡ Some n → moved r u z ≡ Some w → to_utc r zone b ≡ Some p → to_utc w zone b ≡ Some q → LiesBehind (pos n *ℤ z) p q
apart u n z r w p q zone b e h hp hq =
    let at = utc_later r p zone b (to_utc r zone b) hp (utc_is_later.told r zone b) in
    let to = utc_later w q zone b (to_utc w zone b) hq (utc_is_later.told w zone b) in
    carried (instant r) (instant w) (instant p) (instant q) (seconds_behind zone b) (pos n *ℤ z) (moved_on u n r w z e at.0 h) at.1 to.1

-- two readings from one, of which the second is moved on, and their times
record Both (move : Reading → Option Reading) (utc : Reading → Reading → Option Reading) (p q : Reading) : Type 0 where
  start : Reading
  one : Reading
  other : Reading
  moves : move one ≡ Some other
  early : utc start one ≡ Some p
  late : utc start other ≡ Some q

module _ (move : Reading → Option Reading) (utc : Reading → Reading → Option Reading) (p q : Reading) where
  both_last : (r x : Reading) (o : Option Reading) → move x ≡ o → utc r x ≡ Some p → and_then o (utc r) ≡ Some q → Both move utc p q
  both_last r x None e h k = cc
  both_last r x (Some w) e h k = record { start = r; one = x; other = w; moves = e; early = h; late = k }

  both_first : (r : Reading) (o : Option Reading) → and_then (and_then o (λ x. Some x)) (utc r) ≡ Some p → and_then (and_then o move) (utc r) ≡ Some q → Both move utc p q
  both_first r None h k = cc
  both_first r (Some x) h k = both_last r x (move x) refl h k

  both : (g : Option Reading) (f : Reading → Option Reading) → and_then g (λ r. and_then (and_then (f r) (λ x. Some x)) (utc r)) ≡ Some p → and_then g (λ r. and_then (and_then (f r) move) (utc r)) ≡ Some q → Both move utc p q
  both None f h k = cc
  both (Some r) f h k = both_first r (f r) h k

and_some : (o : Option Reading) → and_then o (λ x. Some x) ≡ o
and_some None = refl
and_some (Some x) = refl

module _ (daylight : Reading → Bool) (zone : Zone) where
  abbrev utc : Reading → Reading → Option Reading
  utc r q = to_utc q zone (keeps_daylight daylight zone.saving r)

  even : (s : Standing) (m : Move) (n i : ℕ) (p q : Reading) → s.interval ≡ Some m → unit_seconds m.unit ≡ Some n → 0 < i
      → observed_at daylight zone s 0 ≡ Some p → observed_at daylight zone s i ≡ Some q → LiesBehind (pos n *ℤ (pos i *ℤ m.count)) p q
  unfolding observed_at step_reading shifted
  even s m n i p q has unit some h k =
      let move : Reading → Option Reading = shifted s.interval i in
      let no : eqb i 0 ≡ false = ne_eqb i 0 (λ e. omega arith) in
      let later-one = subst (λ b. and_then (reading_of s.groups) (λ r. and_then (and_then (shifted s.relative 1 r) (λ x. cond b (Some x) (move x))) (utc r)) ≡ Some q) no k in
      let b = both move utc p q (reading_of s.groups) (shifted s.relative 1) h later-one in
      let by : moved b.one m.unit (pos i *ℤ m.count) ≡ Some b.other = sym (ap (λ v. shifted v i b.one) has) ∙ b.moves in
      apart m.unit n (pos i *ℤ m.count) b.one b.other p q zone (keeps_daylight daylight zone.saving b.start) unit by b.early b.late

  first : (s : Standing) (m : Move) (n : ℕ) (p q : Reading) → s.relative ≡ Some m → unit_seconds m.unit ≡ Some n
      → observed_at daylight zone (moved_by s None) 0 ≡ Some p → observed_at daylight zone s 0 ≡ Some q → LiesBehind (pos n *ℤ (pos 1 *ℤ m.count)) p q
  unfolding observed_at step_reading shifted
  first s m n p q has unit h k =
      let move : Reading → Option Reading = λ r. and_then (shifted s.relative 1 r) (λ x. Some x) in
      let b = both move utc p q (reading_of s.groups) (λ r. Some r) h k in
      let by : moved b.one m.unit (pos 1 *ℤ m.count) ≡ Some b.other = sym (and_some (shifted s.relative 1 b.one) ∙ ap (λ v. shifted v 1 b.one) has) ∙ b.moves in
      apart m.unit n (pos 1 *ℤ m.count) b.one b.other p q zone (keeps_daylight daylight zone.saving b.start) unit by b.early b.late

  -- a step's time hangs on the time of the terms alone
  abbrev timed_by : ℕ → Groups → Option Move → Option Move → Option Reading
  timed_by i g relative interval = and_then (reading_of g) (λ r. and_then (and_then (shifted relative 1 r) (λ q. cond (eqb i 0) (Some q) (shifted interval i q))) (utc r))

  pub same_observed : (s t : Standing) (i : ℕ) → SameTime s t → observed_at daylight zone s i ≡ observed_at daylight zone t i
  unfolding observed_at step_reading
  same_observed s t i h =
      ap (λ g. timed_by i g s.relative s.interval) (sym h.groups) ∙ ap (λ r. timed_by i t.groups r s.interval) (sym h.relative) ∙ ap (λ v. timed_by i t.groups t.relative v) (sym h.interval)

pub step_times : StepTimes
step_times = record { even = even; first = first; same = same_observed }
