-- Bounds of readings. Assumes nothing.
use Rattle.std.proofs.Common.{◌≡◌, ℕ, ◌+◌, ◌*◌, ◌≤◌, true, ◌&&◌, ltb, leb, Some, sym, ap, ◌∙◌, subst, arith}
use Rattle.std.proofs.lemmas.Bool.{and_parts, leb-true}
use Rattle.std.specs.Option.{option_map}
use Rattle.calendar.specs.declared.date.Date.{Date}
use Rattle.calendar.specs.Dates.{message_day}
use Rattle.calendar.specs.Messages.{candidate}
use Rattle.ditems.specs.declared.groups.Groups.{Groups}
use Rattle.ditems.specs.Readings.{day_of, second_of, reading_of}
use Rattle.calendar.proofs.Ways.{then_some}
use Rattle.ditems.proofs.Somes.{mapped_some, when-some}

day-real : (g : Groups) (d : Date) → day_of g ≡ Some d → message_day d ≡ true
unfolding day_of candidate
day-real g d e =
    let date : Date = record { year = g.century * 100 + g.year; month = g.month; day = g.day } in
    let p = when-some (message_day date) date d e in
    subst (λ (x : Date). message_day x ≡ true) p.1 p.0

second_is : (g : Groups) (s : ℕ) → second_of g ≡ Some s → (s ≡ g.hour * 3600 + g.minute * 60 + g.second) × (s ≤ 86400)
unfolding second_of
second_is g s e =
    let all = g.hour * 3600 + g.minute * 60 + g.second in
    let p = when-some (ltb g.minute 60 && (ltb g.second 60 && leb all 86400)) all s e in
    let q = and_parts (ltb g.minute 60) (ltb g.second 60 && leb all 86400) p.0 in
    let r = and_parts (ltb g.second 60) (leb all 86400) q.1 in
    let le = leb-true all 86400 r.1 in
    (sym p.1, subst (λ (n : ℕ). n ≤ 86400) p.1 le)

parts : (g : Groups) (r : Date × ℕ) → reading_of g ≡ Some r → (day_of g ≡ Some r.0) × (second_of g ≡ Some r.1)
parts g r e =
    let p = then_some (day_of g) (λ d. option_map {U = Date × ℕ} (λ s. (d, s)) (second_of g)) r e in
    let q = mapped_some {B = Date × ℕ} (λ s. (p.0, s)) (second_of g) r p.2 in
    (p.1 ∙ ap (λ (x : Date × ℕ). Some x.0) q.2, q.1 ∙ ap (λ (x : Date × ℕ). Some x.1) q.2)

pub reading_day : (g : Groups) (r : Date × ℕ) → reading_of g ≡ Some r → message_day r.0 ≡ true
reading_day g r e = day-real g r.0 (parts g r e).0

pub reading_second : (g : Groups) (r : Date × ℕ) → reading_of g ≡ Some r → r.1 ≤ 86400
reading_second g r e = (second_is g r.1 (parts g r e).1).1

pub hour_24 : (g : Groups) (r : Date × ℕ) → reading_of g ≡ Some r → g.hour ≡ 24 → r.1 ≡ 86400
hour_24 g r e h = let s = second_is g r.1 (parts g r e).1 in omega (arith, s.0, s.1, h)
