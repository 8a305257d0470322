-- The weekday after, and the n-th Sunday of a month by its first.
use Rattle.std.proofs.Common.{◌≡◌, ℕ, zero, suc, ◌+◌, ◌-◌, ◌*◌, ◌/◌, ◌%◌, ◌<◌, ◌≤◌, ◌≢◌, true, cond, eqb, ltb, ◌∷◌, length, Some, None, sym, refl, ap, ◌∙◌, inl, inr, arith}
use Rattle.std.proofs.lemmas.Bool.{cases_eq, cond-true, cond-false, eqb-true, eq-eqb, ne_eqb, lt-ltb, le-ltb, ltb-true}
use Rattle.std.proofs.lemmas.Bool.Decides.{nat_tests}
use Rattle.std.proofs.lemmas.Option.{cond_some, none-some}
use Rattle.std.specs.List.{filter, slice_get}
use Rattle.calendar.specs.declared.date.Date.{Date}
use Rattle.calendar.specs.declared.weekday.Weekday.TheVariants.{Sunday}
use Rattle.calendar.specs.Dates.{years_before, months_before, month_length, number, real, next_day}
use Rattle.calendar.specs.Weekdays.{after_friday, weekday, is_sunday, sunday, days_from, sundays, nth_sunday}
use Rattle.calendar.specs.Sundays.{weekday_after, NthSunday, WeekdayLaws}
use Rattle.calendar.proofs.Counting.{years_closed}
use Rattle.calendar.proofs.Dates.{real_parts, next-day}

-- what lies before a month
abbrev before : ℕ → ℕ → ℕ
before y m = years_before y + months_before y m

-- the days from the first of a month to its first Sunday
abbrev pub to_sunday : ℕ → ℕ → ℕ
to_sunday y m = (9 - (before y m + 1) % 7) % 7

next_of_seven : (r : ℕ) → r < 7 → after_friday ((r + 1) % 7) ≡ weekday_after (after_friday r)
next_of_seven zero lt = refl
next_of_seven (suc zero) lt = refl
next_of_seven (suc (suc zero)) lt = refl
next_of_seven (suc (suc (suc zero))) lt = refl
next_of_seven (suc (suc (suc (suc zero)))) lt = refl
next_of_seven (suc (suc (suc (suc (suc zero))))) lt = refl
next_of_seven (suc (suc (suc (suc (suc (suc zero)))))) lt = refl
next_of_seven (suc (suc (suc (suc (suc (suc (suc r))))))) lt = absurd (omega arith)

next_in_week : (n : ℕ) → after_friday ((n + 1) % 7) ≡ weekday_after (after_friday (n % 7))
next_in_week n = let e : (n + 1) % 7 ≡ (n % 7 + 1) % 7 = omega arith in ap after_friday e ∙ next_of_seven (n % 7) (omega arith)

next_weekday : (d : Date) → real d ≡ true → weekday (next_day d) ≡ weekday_after (weekday d)
unfolding weekday
next_weekday d is = ap (λ n. after_friday (n % 7)) (next-day d (real_parts d is)).counts ∙ next_in_week (number d)

is_sunday-after : (r : ℕ) → r < 7 → is_sunday (after_friday r) ≡ eqb r 2
is_sunday-after zero lt = refl
is_sunday-after (suc zero) lt = refl
is_sunday-after (suc (suc zero)) lt = refl
is_sunday-after (suc (suc (suc zero))) lt = refl
is_sunday-after (suc (suc (suc (suc zero)))) lt = refl
is_sunday-after (suc (suc (suc (suc (suc zero))))) lt = refl
is_sunday-after (suc (suc (suc (suc (suc (suc zero)))))) lt = refl
is_sunday-after (suc (suc (suc (suc (suc (suc (suc r))))))) lt = absurd (omega arith)

-- one step on in the days and in the bound
one_on : (a b k l x z : ℕ) → a + 1 ≡ b → k + 1 ≡ l → x ≡ z → cond (ltb a k) (Some x) None ≡ cond (ltb b l) (Some z) None
one_on a b k l x z e f g = grind (arith, nat_tests)

module _ (y m : ℕ) where
  sunday_is : (d : ℕ) → sunday y m d ≡ eqb ((before y m + d) % 7) 2
  unfolding weekday
  sunday_is d = is_sunday-after ((before y m + d) % 7) (omega arith)

  -- the number of a Sunday leaves 2 when divided by 7
  pub sunday_number : (d : ℕ) → weekday (record { year = y; month = m; day = d }) ≡ Sunday → (before y m + d) % 7 ≡ 2
  sunday_number d e = eqb-true ((before y m + d) % 7) 2 (sym (sunday_is d) ∙ ap is_sunday e)

  pub number_sunday : (d : ℕ) → (before y m + d) % 7 ≡ 2 → weekday (record { year = y; month = m; day = d }) ≡ Sunday
  unfolding weekday
  number_sunday d e = ap after_friday e

  -- of the k days from the day d on, the next Sunday being j days away
  listed : (k d j n : ℕ) → j ≤ 6 → (before y m + d + j) % 7 ≡ 2 → slice_get (filter (sunday y m) (days_from d k)) n ≡ cond (ltb (j + 7 * n) k) (Some (d + j + 7 * n)) None
  listed zero d j n six is = sym (cond-false _ (Some (d + j + 7 * n)) None (le-ltb (j + 7 * n) 0 (omega arith)))
  listed (suc k) d j n six is =
      let rest = filter (sunday y m) (days_from (suc d) k) in
      elim (cases_eq j 0) [
        | inl e ↦
            ap (λ xs. slice_get xs n) (cond-true (sunday y m d) (d ∷ rest) rest (sunday_is d ∙ eq-eqb ((before y m + d) % 7) 2 (omega arith)))
            ∙ from_sunday k d j n (n - 1) e refl (listed k (suc d) 6 (n - 1) (omega arith) (omega arith))
        | inr some ↦
            ap (λ xs. slice_get xs n) (cond-false (sunday y m d) (d ∷ rest) rest (sunday_is d ∙ ne_eqb ((before y m + d) % 7) 2 (λ e. omega arith)))
            ∙ listed k (suc d) (j - 1) n (omega arith) (omega arith)
            ∙ one_on (j - 1 + 7 * n) (j + 7 * n) k (suc k) (suc d + (j - 1) + 7 * n) (d + j + 7 * n) (omega arith) (omega arith) (omega arith)
      ]
    where
      from_sunday : (k d j n p : ℕ) → j ≡ 0 → p ≡ n - 1 → slice_get (filter (sunday y m) (days_from (suc d) k)) p ≡ cond (ltb (6 + 7 * p) k) (Some (suc d + 6 + 7 * p)) None
          → slice_get (d ∷ filter (sunday y m) (days_from (suc d) k)) n ≡ cond (ltb (j + 7 * n) (suc k)) (Some (d + j + 7 * n)) None
      from_sunday k d j zero p e back is = sym (cond-true _ (Some (d + j + 7 * 0)) None (lt-ltb (j + 7 * 0) (suc k) (omega arith)) ∙ ap Some (omega arith))
      from_sunday k d j (suc n) p e back is =
          let at : n ≡ p = omega arith in
          ap (slice_get (filter (sunday y m) (days_from (suc d) k))) at
          ∙ is
          ∙ one_on (6 + 7 * p) (j + 7 * suc n) k (suc k) (suc d + 6 + 7 * p) (d + j + 7 * suc n) (omega arith) (omega arith) (omega arith)

  counted : (k d j : ℕ) → j ≤ 6 → (before y m + d + j) % 7 ≡ 2 → length (filter (sunday y m) (days_from d k)) ≡ (k + 6 - j) / 7
  counted zero d j six is = omega arith
  counted (suc k) d j six is =
      let rest = filter (sunday y m) (days_from (suc d) k) in
      elim (cases_eq j 0) [
        | inl e ↦
            ap length (cond-true (sunday y m d) (d ∷ rest) rest (sunday_is d ∙ eq-eqb ((before y m + d) % 7) 2 (omega arith)))
            ∙ omega (arith, counted k (suc d) 6 (omega arith) (omega arith))
        | inr some ↦
            ap length (cond-false (sunday y m d) (d ∷ rest) rest (sunday_is d ∙ ne_eqb ((before y m + d) % 7) 2 (λ e. omega arith)))
            ∙ counted k (suc d) (j - 1) (omega arith) (omega arith)
            ∙ omega arith
      ]

  sundays_up_to : (d : ℕ) → length (sundays y m d) ≡ (d + 6 - to_sunday y m) / 7
  sundays_up_to d = counted d 1 (to_sunday y m) (omega arith) (omega arith)

  pub nth_closed : (n : ℕ) → nth_sunday y m n ≡ cond (eqb n 0) None (cond (ltb (to_sunday y m + 7 * (n - 1)) (month_length y m)) (Some (1 + to_sunday y m + 7 * (n - 1))) None)
  unfolding nth_sunday
  nth_closed n = ap (cond (eqb n 0) None) (listed (month_length y m) 1 (to_sunday y m) (n - 1) (omega arith) (omega arith))

  -- the n-th Sunday, in numbers
  pub nth_at : (n d : ℕ) → 1 ≤ n → d ≤ month_length y m → 1 + to_sunday y m + 7 * (n - 1) ≡ d → nth_sunday y m n ≡ Some d
  nth_at n d some long e =
      nth_closed n
      ∙ cond-false (eqb n 0) None _ (ne_eqb n 0 (λ z. omega arith))
      ∙ cond-true _ (Some (1 + to_sunday y m + 7 * (n - 1))) None (lt-ltb (to_sunday y m + 7 * (n - 1)) (month_length y m) (omega arith))
      ∙ ap Some e

  nth_from : (n d : ℕ) → nth_sunday y m n ≡ Some d → (1 ≤ n) × (d ≤ month_length y m) × (1 + to_sunday y m + 7 * (n - 1) ≡ d)
  nth_from n d e =
      let found = cond (ltb (to_sunday y m + 7 * (n - 1)) (month_length y m)) (Some (1 + to_sunday y m + 7 * (n - 1))) None in
      elim (cases_eq n 0) [
        | inl z ↦ absurd (none-some d (sym (cond-true (eqb n 0) None found (eq-eqb n 0 z)) ∙ sym (nth_closed n) ∙ e))
        | inr some ↦
            let so = cond_some (ltb (to_sunday y m + 7 * (n - 1)) (month_length y m)) (1 + to_sunday y m + 7 * (n - 1)) d
            (sym (cond-false (eqb n 0) None found (ne_eqb n 0 some)) ∙ sym (nth_closed n) ∙ e)
            in
            let low = ltb-true (to_sunday y m + 7 * (n - 1)) (month_length y m) so.0 in
            (omega arith, omega (arith, so.1), so.1)
      ]

  nth_is : (n d : ℕ) → nth_sunday y m n ≡ Some d → NthSunday y m n d
  nth_is n d e =
      let so = nth_from n d e in
      record {
        not_before = omega (arith, so.2);
        not_after = so.1;
        is_sunday = number_sunday d (omega (arith, so.2));
        counted = sundays_up_to d ∙ omega (arith, so.2, so.0);
      }

  nth_only : (n d : ℕ) → NthSunday y m n d → nth_sunday y m n ≡ Some d
  nth_only n d is =
      let left = sunday_number d is.is_sunday in
      let many = sym (sundays_up_to d) ∙ is.counted in
      nth_at n d (omega (arith, is.not_before)) is.not_after (omega (arith, is.not_before))

  four : (n : ℕ) → 28 ≤ month_length y m → 1 ≤ n → n ≤ 4 → nth_sunday y m n ≢ None
  four n long low high none = none-some (1 + to_sunday y m + 7 * (n - 1)) (sym none ∙ nth_at n (1 + to_sunday y m + 7 * (n - 1)) low (omega arith) refl)

known : weekday (record { year = 2024; month = 3; day = 10 }) ≡ Sunday
unfolding months_before month_length
known = number_sunday 2024 3 10 (omega (arith, years_closed 2024))

pub weekday_laws : WeekdayLaws
weekday_laws =
    record {
      next_weekday = next_weekday;
      known = known;
      nth_is = nth_is;
      nth_only = nth_only;
      four = four;
    }
