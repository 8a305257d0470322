-- The nearest of the candidates.
use Rattle.std.proofs.Common.{◌≡◌, ℕ, ◌+◌, ◌-◌, ◌*◌, ◌≤◌, true, ◌&&◌, eqb, leb, ◌⊎◌, List, length, Some, None, Option, sym, refl, ap, ◌∙◌, subst, inl, inr, arith}
use Rattle.std.proofs.lemmas.Bool.{cases_lt, cond_both, and_parts, leb-true, leb-false, both_ways}
use Rattle.calendar.specs.declared.date.Date.{Date}
use Rattle.calendar.specs.Dates.{real, number, message_day}
use Rattle.calendar.specs.Ways.{and_then}
use Rattle.calendar.specs.Messages.{apart, full_year, candidate, nearer, nearest_date, pair_at, whole_date, message_date}
use Rattle.calendar.specs.Nearest.{Candidate, Preferred, Nearest}
use Rattle.calendar.proofs.Dates.{real_parts, by_year, same_date}

pub message_day_lem : (d : Date) → message_day d ≡ true → (1900 ≤ d.year) × (d.year ≤ 2099) × (real d ≡ true)
unfolding message_day
message_day_lem d is =
    let a = and_parts (leb 1900 d.year && leb d.year 2099) (real d) is in
    let b = and_parts (leb 1900 d.year) (leb d.year 2099) a.0 in
    (leb-true _ _ b.0, leb-true _ _ b.1, a.1)

-- the day m, d of the year y
record Of (y m d : ℕ) (e : Date) : Type 0 where
  of_year : e.year ≡ y
  of_month : e.month ≡ m
  of_day : e.day ≡ d
  of_range : message_day e ≡ true

abbrev Best : ℕ → (Date → Type 0) → Option Date → Type 0
Best n P None = (e : Date) → P e → ⊥
Best n P (Some e) = P e × ((f : Date) → P f → Preferred n (number e) (number f))

best_one : (n y m d : ℕ) → Best n (Of y m d) (candidate y m d)
unfolding candidate
best_one n y m d =
    let date : Date = record { year = y; month = m; day = d } in
    cond_both (message_day date) (Some date) None (Best n (Of y m d))
    (λ t. (
      record { of_year = refl; of_month = refl; of_day = refl; of_range = t },
      λ f is. let same = ap number (same_date f date is.of_year is.of_month is.of_day) in
          (omega (arith, ap (apart n) same), λ _. omega (arith, same)),
    ))
    (λ e f is. both_ways (message_day date) e (sym (ap message_day (same_date f date is.of_year is.of_month is.of_day)) ∙ is.of_range))

best_both : (n : ℕ) (P Q : Date → Type 0) → ((p q : Date) → P p → Q q → number p ≤ number q) → (a b : Option Date) → Best n P a → Best n Q b → Best n (λ e. P e ⊎ Q e) (nearer n a b)
unfolding nearer
best_both n P Q order None None a b = λ e is. elim is [ inl p ↦ a e p | inr q ↦ b e q ]
best_both n P Q order None (Some y) a b = (inr b.0, λ f is. elim is [ inl p ↦ absurd (a f p) | inr q ↦ b.1 f q ])
best_both n P Q order (Some x) None a b = (inl a.0, λ f is. elim is [ inl p ↦ a.1 f p | inr q ↦ absurd (b f q) ])
best_both n P Q order (Some x) (Some y) a b =
    cond_both (leb (apart n (number x)) (apart n (number y))) x y (λ e. Best n (λ e. P e ⊎ Q e) (Some e))
    (λ t.
    let le = leb-true (apart n (number x)) (apart n (number y)) t in (
      inl a.0,
      λ f is. elim is [
        | inl p ↦ a.1 f p
        | inr q ↦ let far = (b.1 f q).0 in (omega arith, λ _. order x f a.0 q)
      ],
    ))
    (λ g.
    let lt = leb-false (apart n (number x)) (apart n (number y)) g in (
      inr b.0,
      λ f is. elim is [
        | inl p ↦ let far = (a.1 f p).0 in (omega arith, λ same. omega arith)
        | inr q ↦ b.1 f q
      ],
    ))

in_order : (y z m d : ℕ) → y ≤ z → (p q : Date) → Of y m d p → Of z m d q → number p ≤ number q
in_order y z m d le p q is-p is-q =
    elim (cases_lt p.year q.year) [
      | inl lt ↦ omega (arith, by_year p q (real_parts p (message_day_lem p is-p.of_range).2) (real_parts q (message_day_lem q is-q.of_range).2) lt)
      | inr ge ↦
          let y-same : p.year ≡ q.year = omega (arith, is-p.of_year, is-q.of_year) in
          omega (arith, ap number (same_date p q y-same (is-p.of_month ∙ sym is-q.of_month) (is-p.of_day ∙ sym is-q.of_day)))
    ]

abbrev Three : Date → ℕ → ℕ → Date → Type 0
Three cur m d e = Of (cur.year - 1) m d e ⊎ (Of cur.year m d e ⊎ Of (cur.year + 1) m d e)

best_three : (cur : Date) (m d : ℕ) → Best (number cur) (Three cur m d) (nearest_date cur m d)
unfolding nearest_date
best_three cur m d =
    best_both (number cur) (Of (cur.year - 1) m d) (λ e. Of cur.year m d e ⊎ Of (cur.year + 1) m d e)
    (λ p q is-p is-q. elim is-q [
      | inl is ↦ in_order (cur.year - 1) cur.year m d (omega arith) p q is-p is
      | inr is ↦ in_order (cur.year - 1) (cur.year + 1) m d (omega arith) p q is-p is
    ])
    (candidate (cur.year - 1) m d)
    (nearer (number cur) (candidate cur.year m d) (candidate (cur.year + 1) m d))
    (best_one (number cur) (cur.year - 1) m d)
    (best_both (number cur) (Of cur.year m d) (Of (cur.year + 1) m d) (in_order cur.year (cur.year + 1) m d (omega arith))
    (candidate cur.year m d) (candidate (cur.year + 1) m d) (best_one (number cur) cur.year m d) (best_one (number cur) (cur.year + 1) m d))

is_candidate : (cur : Date) (m d : ℕ) (e : Date) → Three cur m d e → Candidate cur m d e
is_candidate cur m d e (inl is) =
    let low = (message_day_lem e is.of_range).0 in
    record { wanted_month = is.of_month; wanted_day = is.of_day; in_range = is.of_range; near_year = inl (omega (arith, is.of_year)) }
is_candidate cur m d e (inr (inl is)) =
    record { wanted_month = is.of_month; wanted_day = is.of_day; in_range = is.of_range; near_year = inr (inl is.of_year) }
is_candidate cur m d e (inr (inr is)) =
    record { wanted_month = is.of_month; wanted_day = is.of_day; in_range = is.of_range; near_year = inr (inr is.of_year) }

is_three : (cur : Date) (m d : ℕ) (e : Date) → Candidate cur m d e → Three cur m d e
is_three cur m d e is =
    elim is.near_year [
      | inl y ↦ inl (record { of_year = omega arith; of_month = is.wanted_month; of_day = is.wanted_day; of_range = is.in_range })
      | inr (inl y) ↦ inr (inl (record { of_year = y; of_month = is.wanted_month; of_day = is.wanted_day; of_range = is.in_range }))
      | inr (inr y) ↦ inr (inr (record { of_year = y; of_month = is.wanted_month; of_day = is.wanted_day; of_range = is.in_range }))
    ]

is_nearest : (cur : Date) (m d : ℕ) (o : Option Date) → Best (number cur) (Three cur m d) o → Nearest cur m d o
is_nearest cur m d None best = λ e is. best e (is_three cur m d e is)
is_nearest cur m d (Some e) best = (is_candidate cur m d e best.0, λ f is. best.1 f (is_three cur m d f is))

pub nearest_there : (cur : Date) (m d : ℕ) → Nearest cur m d (nearest_date cur m d)
nearest_there cur m d = is_nearest cur m d (nearest_date cur m d) (best_three cur m d)

pub in_century : (cur two : ℕ) → (full_year cur two ≡ 1900 + two) ⊎ (full_year cur two ≡ 2000 + two)
in_century cur two =
    cond_both (leb (apart cur (1900 + two)) (apart cur (2000 + two))) (1900 + two) (2000 + two) (λ y. (y ≡ 1900 + two) ⊎ (y ≡ 2000 + two)) (λ _. inl refl) (λ _. inr refl)

pub best_century : (cur two : ℕ) → Preferred cur (full_year cur two) (1900 + two) × Preferred cur (full_year cur two) (2000 + two)
best_century cur two =
    cond_both (leb (apart cur (1900 + two)) (apart cur (2000 + two))) (1900 + two) (2000 + two)
    (λ y. Preferred cur y (1900 + two) × Preferred cur y (2000 + two))
    (λ t. let le = leb-true (apart cur (1900 + two)) (apart cur (2000 + two)) t in
    ((omega arith, λ _. omega arith), (le, λ _. omega arith)))
    (λ e. let lt = leb-false (apart cur (1900 + two)) (apart cur (2000 + two)) e in
    ((omega arith, λ same. omega arith), (omega arith, λ _. omega arith)))

-- a day that a message can mean
abbrev InRange : Option Date → Type 0
InRange None = Unit {0}
InRange (Some d) = message_day d ≡ true

then_in : {A : Type 0} (o : Option A) (f : A → Option Date) → ((x : A) → InRange (f x)) → InRange (and_then o f)
then_in None f each = tt
then_in (Some x) f each = each x

candidate_in : (y m d : ℕ) → InRange (candidate y m d)
unfolding candidate
candidate_in y m d =
    let date : Date = record { year = y; month = m; day = d } in
    cond_both (message_day date) (Some date) None InRange (λ t. t) (λ _. tt)

nearest_in : (cur : Date) (m d : ℕ) (o : Option Date) → Nearest cur m d o → InRange o
nearest_in cur m d None is = tt
nearest_in cur m d (Some e) is = is.0.in_range

message_in : (s : List ℕ) (cur : Date) → InRange (message_date s cur)
unfolding message_date
message_in s cur =
    cond_both (eqb (length s) 4) _ _ InRange
    (λ _. then_in (pair_at s 0) _ (λ m. then_in (pair_at s 2) _ (λ d. nearest_in cur m d (nearest_date cur m d) (nearest_there cur m d))))
    (λ _. cond_both (eqb (length s) 6) _ _ InRange
    (λ _. then_in (pair_at s 0) _ (λ y. then_in (pair_at s 2) _ (λ m. then_in (pair_at s 4) _ (λ d. candidate_in (full_year cur.year y) m d))))
    (λ _. cond_both (eqb (length s) 8) (whole_date s) None InRange
    (λ _. then_in (pair_at s 0) _ (λ c. then_in (pair_at s 2) _ (λ y. then_in (pair_at s 4) _ (λ m. then_in (pair_at s 6) _ (λ d. candidate_in (c * 100 + y) m d)))))
    (λ _. tt)))

pub date_in_range : (s : List ℕ) (cur d : Date) → message_date s cur ≡ Some d → message_day d ≡ true
date_in_range s cur d e = subst InRange e (message_in s cur)
