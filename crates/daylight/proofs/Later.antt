-- UTC on the line of instants.
use Rattle.std.proofs.Common.{◌≡◌, ℕ, ◌+◌, ◌-◌, ◌*◌, ◌<◌, Bool, true, false, ltb, pos, Some, None, Option, sym, ap, ◌∙◌, subst, inl, inr, arith}
use Rattle.std.proofs.lemmas.Bool.{cond_both, cases_Bool, and_parts, ltb-true, both_ways}
use Rattle.calendar.specs.declared.date.Date.{Date}
use Rattle.instants.specs.declared.moves.Unit.TheVariants.{Second}
use Rattle.calendar.specs.Dates.{real, message_day}
use Rattle.calendar.specs.Ways.{and_then}
use Rattle.instants.specs.Moves.{instant, moved}
use Rattle.instants.specs.Moving.{AtInstant}
use Rattle.instants.specs.Utc.{utc_time}
use Rattle.instants.proofs.Moving.{moving}
use Rattle.calendar.proofs.Dates.{same_number, real_parts}
use Rattle.calendar.proofs.Nearest.{message_day_lem}
use Rattle.daylight.specs.declared.zone.Zone.{Zone}
use Rattle.daylight.specs.Zones.{keeps_daylight, seconds_behind}
use Rattle.daylight.specs.Utc.{only_utc, to_utc, utc_of, Behind, UtcIsLater}

same_pos : (m n : ℕ) → pos m ≡ pos n → m ≡ n
same_pos m n e = cc

utc_parts : (q : Date × ℕ) → utc_time q.0 q.1 ≡ true → (real q.0 ≡ true) × (q.1 < 86400)
utc_parts q is =
    let parts = and_parts (message_day q.0) (ltb q.1 86400) is in
    ((message_day_lem q.0 parts.0).2, ltb-true q.1 86400 parts.1)

same_reading : (p q : Date × ℕ) → p.0 ≡ q.0 → p.1 ≡ q.1 → p ≡ q
same_reading p q d s = ap (λ x. (x, p.1)) d ∙ ap (λ x. (q.0, x)) s

-- two readings at one instant, with seconds below a day's, are one
one_instant : (p q : Date × ℕ) → real p.0 ≡ true → real q.0 ≡ true → p.1 < 86400 → q.1 < 86400 → instant p ≡ instant q → p ≡ q
one_instant p q is-p is-q low-p low-q same =
    same_reading p q (same_number p.0 q.0 (real_parts p.0 is-p) (real_parts q.0 is-q) (omega arith)) (omega arith)

behind : (r : Date × ℕ) (n : ℕ) → real r.0 ≡ true → (o : Option (Date × ℕ)) → AtInstant (pos (instant r + n)) o → Behind r n (and_then o only_utc)
behind r n is None no-reading = λ _ q utc same. no-reading q (utc_parts q utc).0 (utc_parts q utc).1 (ap pos same)
behind r n is (Some p) there =
    cond_both (utc_time p.0 p.1) (Some p) None (Behind r n)
    (λ t. (is, t, same_pos (instant p) (instant r + n) there.2))
    (λ e _ q utc same.
    let at = same_pos (instant p) (instant r + n) there.2 in
    let one = one_instant p q there.0 (utc_parts q utc).0 there.1 (utc_parts q utc).1 (at ∙ sym same) in
    both_ways (utc_time p.0 p.1) e (ap (λ x. utc_time x.0 x.1) one ∙ utc))

unreal_behind : (r : Date × ℕ) (n : ℕ) → real r.0 ≡ false → Behind r n None
unreal_behind r n e = λ is. absurd (both_ways (real r.0) e is)

later : (r : Date × ℕ) (zone : Zone) (saves : Bool) → Behind r (seconds_behind zone saves) (to_utc r zone saves)
unfolding to_utc
later r zone saves =
    elim (cases_Bool (real r.0)) [
      | inl is ↦ behind r (seconds_behind zone saves) is (moved r Second (pos (seconds_behind zone saves))) (moving.seconds r (pos (seconds_behind zone saves)) is)
      | inr e ↦ subst (λ o. Behind r (seconds_behind zone saves) (and_then o only_utc)) (sym (moving.unreal r Second (pos (seconds_behind zone saves)) e)) (unreal_behind r (seconds_behind zone saves) e)
    ]

-- by so many seconds, where these are what the zone is behind at the reading
under_rule : (daylight : Date × ℕ → Bool) (zone : Zone) (r : Date × ℕ) (saves : Bool) (n : ℕ) → keeps_daylight daylight zone.saving r ≡ saves → seconds_behind zone saves ≡ n
    → Behind r n (utc_of daylight zone r)
under_rule daylight zone r saves n is behind-by =
    subst (λ k. Behind r k (utc_of daylight zone r)) behind-by
    (subst (λ b. Behind r (seconds_behind zone saves) (to_utc r zone b)) (sym is) (later r zone saves))

pub utc_is_later : UtcIsLater
utc_is_later =
    record {
      told = later;
      standard = λ daylight zone r is. under_rule daylight zone r false (zone.hours * 3600) is (omega arith);
      saving = λ daylight zone r is. under_rule daylight zone r true (zone.hours * 3600 - 3600) is (omega arith);
    }
