-- Real dates, the order of their numbers and the day after.
use Rattle.std.proofs.Common.{◌≡◌, ℕ, zero, suc, ◌+◌, ◌-◌, ◌<◌, ◌≤◌, true, ◌&&◌, ltb, leb, ◌⊎◌, Some, None, sym, refl, ap, ◌∙◌, subst, inl, inr, add-one, arith}
use Rattle.std.proofs.lemmas.Bool.{cases_lt, leb-true, le-leb, and_parts, and_from, cond-true, cond-false, cond_both, ltb-true, ltb-false, cases_Bool, cases_order, and_cases, leb-false}
use Rattle.std.proofs.lemmas.Bool.Decides.{nat_tests}
use Rattle.calendar.specs.declared.date.Date.{Date}
use Rattle.calendar.specs.Dates.{year_length, month_length, years_before, months_before, real, number, next_day, day_after, date_of}
use Rattle.calendar.specs.Numbers.{earlier, DayNumbers}
use Rattle.calendar.proofs.Counting.{years_closed, years_up, months_up, months_all, month_bounds}

pub record Real (d : Date) : Type 0 where
  pub year : d.year ≤ 9999
  pub month_low : 1 ≤ d.month
  pub month_high : d.month ≤ 12
  pub day_low : 1 ≤ d.day
  pub day_high : d.day ≤ month_length d.year d.month

pub real_parts : (d : Date) → real d ≡ true → Real d
unfolding real
real_parts d is =
    let a = and_parts (leb d.year 9999 && leb 1 d.day) (leb d.day (month_length d.year d.month)) is in
    let b = and_parts (leb d.year 9999) (leb 1 d.day) a.0 in
    let low : 1 ≤ d.day = leb-true _ _ b.1 in
    let high : d.day ≤ month_length d.year d.month = leb-true _ _ a.1 in
    let m = month_bounds d.year d.month (omega arith) in
    record { year = leb-true _ _ b.0; month_low = m.0; month_high = m.1; day_low = low; day_high = high }

pub real_from : (d : Date) → d.year ≤ 9999 → 1 ≤ d.day → d.day ≤ month_length d.year d.month → real d ≡ true
unfolding real
real_from d y low high = and_from _ _ (and_from _ _ (le-leb _ _ y) (le-leb _ _ low)) (le-leb _ _ high)

-- a day stands within its year
pub within : (d : Date) → Real d → (years_before d.year < number d) × (number d ≤ years_before d.year + year_length d.year)
within d is =
    let up = months_up d.year d.month 13 (omega arith) in
    let all = months_all d.year in
    (omega arith, omega arith)

pub by_year : (a b : Date) → Real a → Real b → a.year < b.year → number a < number b
by_year a b is-a is_b lt = omega (arith, within a is-a, within b is_b, years_up a.year b.year lt)

pub by_month : (a b : Date) → Real a → Real b → a.year ≡ b.year → a.month < b.month → number a < number b
by_month a b is-a is_b same lt =
    let up = months_up a.year a.month b.month lt in
    let years = ap years_before same in
    let months = ap (λ y. months_before y b.month) same in
    omega arith

pub by_day : (a b : Date) → a.year ≡ b.year → a.month ≡ b.month → a.day < b.day → number a < number b
by_day a b same same_month lt =
    let years = ap years_before same in
    let months : months_before a.year a.month ≡ months_before b.year b.month = ap (λ y. months_before y a.month) same ∙ ap (months_before b.year) same_month in
    omega arith

pub same_date : (a b : Date) → a.year ≡ b.year → a.month ≡ b.month → a.day ≡ b.day → a ≡ b
same_date a b y m d =
    ap (λ x. record { year = x; month = a.month; day = a.day }) y ∙ ap (λ x. record { year = b.year; month = x; day = a.day }) m ∙ ap (λ x. record { year = b.year; month = b.month; day = x }) d

-- two real days of one number are one day
pub same_number : (a b : Date) → Real a → Real b → number a ≡ number b → a ≡ b
same_number a b is-a is_b same =
    let y : a.year ≡ b.year =
    elim (cases_lt a.year b.year) [
      | inl lt ↦ omega (arith, by_year a b is-a is_b lt)
      | inr ge ↦ elim (cases_lt b.year a.year) [
        | inl lt ↦ omega (arith, by_year b a is_b is-a lt)
        | inr le ↦ omega arith
      ]
    ]
    in
    let m : a.month ≡ b.month =
    elim (cases_lt a.month b.month) [
      | inl lt ↦ omega (arith, by_month a b is-a is_b y lt)
      | inr ge ↦ elim (cases_lt b.month a.month) [
        | inl lt ↦ omega (arith, by_month b a is_b is-a (sym y) lt)
        | inr le ↦ omega arith
      ]
    ]
    in
    let d : a.day ≡ b.day =
    elim (cases_lt a.day b.day) [
      | inl lt ↦ omega (arith, by_day a b y m lt)
      | inr ge ↦ elim (cases_lt b.day a.day) [
        | inl lt ↦ omega (arith, by_day b a (sym y) (sym m) lt)
        | inr le ↦ omega arith
      ]
    ]
    in
    same_date a b y m d

-- the day after has the next number, and is real but for the last day of all
pub record Next (d e : Date) : Type 0 where
  pub counts : number e ≡ number d + 1
  pub is_real : number d < 3652425 → Real e

pub month_some : (y m : ℕ) → 1 ≤ m → m ≤ 12 → 1 ≤ month_length y m
unfolding month_length
month_some y m low high = grind (arith, nat_tests)

later_month : (d : Date) → Real d → month_length d.year d.month ≤ d.day → d.month < 12 → Next d (record { year = d.year; month = d.month + 1; day = 1 })
unfolding months_before
later_month d is full lt =
    let e : months_before d.year (d.month + 1) ≡ months_before d.year d.month + month_length d.year d.month = rw add-one refl in
    record {
      counts = omega arith;
      is_real = λ _. record { year = is.year; month_low = omega arith; month_high = omega arith; day_low = omega arith; day_high = month_some d.year (d.month + 1) (omega arith) (omega arith) };
    }

later_year : (d : Date) → Real d → month_length d.year d.month ≤ d.day → 12 ≤ d.month → Next d (record { year = d.year + 1; month = 1; day = 1 })
unfolding months_before years_before month_length
later_year d is full le =
    let december : d.month ≡ 12 = omega (arith, is.month_high) in
    let len : month_length d.year d.month ≡ 31 = ap (month_length d.year) december in
    let months : months_before d.year d.month + 31 ≡ year_length d.year = ap (λ m. months_before d.year m + 31) december ∙ months_all d.year in
    let years : years_before (d.year + 1) ≡ years_before d.year + year_length d.year = rw add-one refl in
    let last : d.day ≡ 31 = omega (arith, is.day_high) in
    let first : months_before (d.year + 1) 1 ≡ 0 = refl in
    record {
      counts = omega arith;
      is_real = λ before.
          record {
            year = elim (cases_lt d.year 9999) [
              | inl lt ↦ omega arith
              | inr ge ↦ let e : d.year ≡ 9999 = omega (arith, is.year) in omega (arith, ap years_before e ∙ years_closed 9999, ap year_length e)
            ];
            month_low = omega arith;
            month_high = omega arith;
            day_low = omega arith;
            day_high = month_some (d.year + 1) 1 (omega arith) (omega arith);
          };
    }

pub next-day : (d : Date) → Real d → Next d (next_day d)
next-day d is =
    cond_both (ltb d.day (month_length d.year d.month)) _ _ (Next d)
    (λ t. record {
      counts = omega arith;
      is_real = λ _. record { year = is.year; month_low = is.month_low; month_high = is.month_high; day_low = omega arith; day_high = omega (arith, ltb-true d.day (month_length d.year d.month) t) };
    })
    (λ f. cond_both (ltb d.month 12) _ _ (Next d) (λ t. later_month d is (ltb-false _ _ f) (ltb-true _ _ t)) (λ g. later_year d is (ltb-false _ _ f) (ltb-false _ _ g)))

pub day-after : (n : ℕ) → n < 3652425 → (Real (day_after n)) × (number (day_after n) ≡ n + 1)
unfolding day_after real month_length years_before months_before
day-after zero lt = (real_parts (day_after zero) refl, refl)
day-after (suc n) lt =
    let so = day-after n (omega arith) in
    let e : n + 1 < 3652425 = omega arith in
    let step = next-day (day_after n) so.0 in
    (step.is_real (omega (arith, so.1)), omega (arith, step.counts, so.1))

-- the day of a number is the real day that has it
pub date_of-number : (d : Date) → Real d → date_of (number d) ≡ Some d
unfolding date_of
date_of-number d is =
    let years = years_up d.year 10000 (omega (arith, is.year)) in
    let most : number d ≤ 3652425 = omega (arith, within d is, years_closed 10000) in
    let some : 1 ≤ number d = omega (arith, within d is) in
    let so = day-after (number d - 1) (omega arith) in
    cond-true _ (Some (day_after (number d - 1))) None (and_from _ _ (le-leb 1 (number d) some) (le-leb (number d) 3652425 most))
    ∙ ap Some (same_number (day_after (number d - 1)) d so.0 is (so.1 ∙ omega arith))

pub real_whole : (d : Date) → Real d → real d ≡ true
real_whole d is = real_from d is.year is.day_low is.day_high

pub number_of_date : (n : ℕ) (d : Date) → date_of n ≡ Some d → (Real d) × (number d ≡ n)
unfolding date_of
number_of_date n d e =
    elim (cases_Bool (leb 1 n && leb n 3652425)) [
      | inl t ↦
          let parts = and_parts (leb 1 n) (leb n 3652425) t in
          let low = leb-true 1 n parts.0 in
          let high = leb-true n 3652425 parts.1 in
          let so = day-after (n - 1) (omega arith) in
          let is : Some (day_after (n - 1)) ≡ Some d = sym (cond-true _ (Some (day_after (n - 1))) None t) ∙ e in
          let same : day_after (n - 1) ≡ d = cc in
          (subst Real same so.0, sym (ap number same) ∙ so.1 ∙ omega arith)
      | inr f ↦
          let is : None ≡ Some d = sym (cond-false _ (Some (day_after (n - 1))) None f) ∙ e in
          let z : ◌≡◌ {A = ℕ} 0 1 = cc in absurd (omega arith)
    ]

pub no_date : (n : ℕ) → date_of n ≡ None → (n ≡ 0) ⊎ (3652425 < n)
unfolding date_of
no_date n e =
    elim (cases_Bool (leb 1 n && leb n 3652425)) [
      | inl t ↦
          let is : Some (day_after (n - 1)) ≡ None = sym (cond-true _ (Some (day_after (n - 1))) None t) ∙ e in
          let z : ◌≡◌ {A = ℕ} 0 1 = cc in absurd (omega arith)
      | inr f ↦ elim (and_cases (leb 1 n) (leb n 3652425) f) [
        | inl low ↦ inl (omega (arith, leb-false 1 n low))
        | inr high ↦ inr (leb-false n 3652425 high)
      ]
    ]

pub ordered : (a b : Date) → Real a → Real b → earlier a b ≡ ltb (number a) (number b)
ordered a b is-a is_b =
    elim (cases_order a.year b.year) [
      | inr (inl lt) ↦ let n = by_year a b is-a is_b lt in grind (arith, nat_tests)
      | inr (inr gt) ↦ let n = by_year b a is_b is-a gt in grind (arith, nat_tests)
      | inl y ↦ elim (cases_order a.month b.month) [
        | inr (inl lt) ↦ let n = by_month a b is-a is_b y lt in grind (arith, nat_tests)
        | inr (inr gt) ↦ let n = by_month b a is_b is-a (sym y) gt in grind (arith, nat_tests)
        | inl m ↦ elim (cases_order a.day b.day) [
          | inr (inl lt) ↦ let n = by_day a b y m lt in grind (arith, nat_tests)
          | inr (inr gt) ↦ let n = by_day b a (sym y) (sym m) gt in grind (arith, nat_tests)
          | inl d ↦ let n = ap number (same_date a b y m d) in grind (arith, nat_tests)
        ]
      ]
    ]

pub day_numbers : DayNumbers
day_numbers =
    record {
      next-number = λ d is. (next-day d (real_parts d is)).counts;
      next-real = λ d is h. real_whole (next_day d) ((next-day d (real_parts d is)).is_real h);
      day_back = λ d is. date_of-number d (real_parts d is);
      number_back = λ n d e. (real_whole d (number_of_date n d e).0, (number_of_date n d e).1);
      no_day = no_date;
      same_order = λ a b is-a is_b. ordered a b (real_parts a is-a) (real_parts b is_b);
    }

pub last_number : (d : Date) → Real d → (1 ≤ number d) × (number d ≤ 3652425)
last_number d is =
    let years = years_up d.year 10000 (omega (arith, is.year)) in
    (omega (arith, within d is), omega (arith, within d is, years_closed 10000))
