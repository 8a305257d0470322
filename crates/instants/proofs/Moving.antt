-- Where moves land.
use Rattle.std.proofs.Common.{◌≡◌, ℕ, ◌+◌, ◌-◌, ◌*◌, ◌/◌, ◌%◌, ◌≤◌, min, true, false, leb, ℤ, pos, negsuc, ◌+ℤ◌, ◌*ℤ◌, nat_abs, ◌≢◌, Some, None, Option, sym, refl, ap, ◌∙◌, subst, inl, inr, arith}
use lib.IntN.{pos-ne-negsuc, +ℤ_assoc}
use Rattle.std.specs.Option.{option_map}
use Rattle.std.proofs.lemmas.Bool.{cond-true, cond-false, cond_both, cases_Bool, leb-true, leb-false, le-leb}
use Rattle.std.proofs.lemmas.Int.{ints}
use Rattle.std.proofs.lemmas.Option.{none-some}
use Rattle.calendar.specs.declared.date.Date.{Date}
use Rattle.instants.specs.declared.moves.Unit as the_unit
use Rattle.instants.specs.declared.moves.Unit.TheVariants.{Second, Minute, Hour, Day, Month, Year, MonthEnd}
use Rattle.calendar.specs.Dates.{month_length, real, message_day, number, date_of}
use Rattle.calendar.specs.Ways.{and_then}
use Rattle.instants.specs.Moves.{natural, instant, reading_at, month_place, month_at, month_from, by_seconds, by_days, by_months, to_month_end, with_second, real_moved, moved}
use Rattle.instants.specs.Moving.{AtInstant, AtDay, InMonth, Moving}
use Rattle.calendar.proofs.Counting.{years_closed, years_up}
use Rattle.calendar.proofs.Dates.{real_parts, real_whole, within, number_of_date, no_date, last_number, real_from, month_some}
use Rattle.calendar.proofs.Nearest.{message_day_lem}

is_moved : (r : Date × ℕ) (u : the_unit.Unit) (z : ℤ) → real r.0 ≡ true → moved r u z ≡ real_moved r u z
unfolding moved
is_moved r u z is = cond-true _ _ None is

unmoved : (r : Date × ℕ) (u : the_unit.Unit) (z : ℤ) → real r.0 ≡ false → moved r u z ≡ None
unfolding moved
unmoved r u z not-real = cond-false _ (real_moved r u z) None not-real

same_pos : (m n : ℕ) → pos m ≡ pos n → m ≡ n
same_pos m n e = cc

-- seconds
reading_at_lem : (n : ℕ) (o : Option Date) → date_of (n / 86400) ≡ o → AtInstant (pos n) (option_map {U = Date × ℕ} (λ d. (d, n % 86400)) o)
reading_at_lem n None none = λ q is below same.
    let m : instant q ≡ n = same_pos (instant q) n same in
    let in-calendar = last_number q.0 (real_parts q.0 is) in
    elim (no_date (n / 86400) none) [ inl e ↦ omega arith | inr e ↦ omega arith ]
reading_at_lem n (Some d) some =
    let so = number_of_date (n / 86400) d some in
    (real_whole d so.0, omega arith, ap pos (omega (arith, so.1)))

at_instant : (z : ℤ) → AtInstant z (and_then (natural z) reading_at)
at_instant (pos n) = reading_at_lem n (date_of (n / 86400)) refl
at_instant (negsuc n) = λ q is below same. pos-ne-negsuc (instant q) n same

by_seconds_lem : (r : Date × ℕ) (z : ℤ) → AtInstant (pos (instant r) +ℤ z) (by_seconds r z)
unfolding by_seconds
by_seconds_lem r z = at_instant (pos (instant r) +ℤ z)

-- days
day_at : (s n : ℕ) (o : Option Date) → date_of n ≡ o → AtDay s (pos n) (with_second s o)
day_at s n None none = λ d is same.
    let m : number d ≡ n = same_pos (number d) n same in
    let in-calendar = last_number d (real_parts d is) in
    elim (no_date n none) [ inl e ↦ omega arith | inr e ↦ omega arith ]
day_at s n (Some d) some =
    let so = number_of_date n d some in
    (real_whole d so.0, refl, ap pos so.1)

at_day : (s : ℕ) (z : ℤ) → AtDay s z (with_second s (and_then (natural z) date_of))
at_day s (pos n) = day_at s n (date_of n) refl
at_day s (negsuc n) = λ d is same. pos-ne-negsuc (number d) n same

by_days_lem : (s : ℕ) (d : Date) (z : ℤ) → AtDay s (pos (number d) +ℤ z) (with_second s (by_days d z))
unfolding by_days
by_days_lem s d z = at_day s (pos (number d) +ℤ z)

by_days_twice : (s : ℕ) (d e : Date) (m n : ℤ) → pos (number e) ≡ pos (number d) +ℤ m → by_days e n ≡ by_days d (m +ℤ n)
unfolding by_days
by_days_twice s d e m n same = ap (λ z. and_then (natural z) date_of) (ap (λ z. z +ℤ n) same ∙ +ℤ_assoc (pos (number d)) m n)

-- months
abbrev date_for : (ℕ → ℕ) → ℕ × ℕ → Date
date_for f p = record { year = p.0; month = p.1; day = f (month_length p.0 p.1) }

month_at_lem : (s : ℕ) (f : ℕ → ℕ) → ((len : ℕ) → 1 ≤ len → (1 ≤ f len) × (f len ≤ len)) → (n : ℕ) → InMonth s f (pos n) (with_second s (option_map (date_for f) (month_at n)))
month_at_lem s f ok n =
    cond_both (leb (n / 12) 9999) _ None (λ o. InMonth s f (pos n) (with_second s (option_map (date_for f) o)))
    (λ t.
    let len = month_some (n / 12) (n % 12 + 1) (omega arith) (omega arith) in
    let day = ok (month_length (n / 12) (n % 12 + 1)) len in
    (real_from (date_for f (n / 12, n % 12 + 1)) (leb-true _ _ t) day.0 day.1, refl, ap pos (omega arith), refl))
    (λ e d is same.
    let over = leb-false (n / 12) 9999 e in
    let m : month_place d ≡ n = same_pos (month_place d) n same in
    let parts = real_parts d is in
    omega arith)

in_month : (s : ℕ) (f : ℕ → ℕ) → ((len : ℕ) → 1 ≤ len → (1 ≤ f len) × (f len ≤ len)) → (z : ℤ) → InMonth s f z (with_second s (option_map (date_for f) (and_then (natural z) month_at)))
in_month s f ok (pos n) = month_at_lem s f ok n
in_month s f ok (negsuc n) = λ d is same. pos-ne-negsuc (month_place d) n same

by_months_lem : (s : ℕ) (d : Date) (z : ℤ) → 1 ≤ d.day → InMonth s (min d.day) (pos (month_place d) +ℤ z) (with_second s (by_months d z))
unfolding by_months month_from
by_months_lem s d z some = in_month s (min d.day) (λ len long. (omega arith, omega arith)) (pos (month_place d) +ℤ z)

to_month_end_lem : (s : ℕ) (d : Date) (z : ℤ) → InMonth s (λ len. len) (pos (month_place d) +ℤ z) (with_second s (to_month_end d z))
unfolding to_month_end month_from
to_month_end_lem s d z = in_month s (λ len. len) (λ len long. (long, omega arith)) (pos (month_place d) +ℤ z)

year_months : (y m y' m' : ℕ) (z : ℤ) → 1 ≤ m → m ≤ 12 → 1 ≤ m' → m' ≤ 12 → pos (y' * 12 + (m' - 1)) ≡ pos (y * 12 + (m - 1)) +ℤ pos 12 *ℤ z → (m' ≡ m) × (pos y' ≡ pos y +ℤ z)
year_months y m y' m' z a b c d e = (omega (arith, ints), omega (arith, ints))

days_again : (r q : Date × ℕ) (m n : ℤ) → moved r Day m ≡ Some q → moved q Day n ≡ moved r Day (m +ℤ n)
days_again r q m n e =
    elim (cases_Bool (real r.0)) [
      | inr not-real ↦ let z : ◌≡◌ {A = ℕ} 0 1 = cc (unmoved r Day m not-real) in absurd (omega arith)
      | inl is ↦
          let there : AtDay r.1 (pos (number r.0) +ℤ m) (Some q) =
          subst (AtDay r.1 (pos (number r.0) +ℤ m)) (sym (is_moved r Day m is) ∙ e) (by_days_lem r.1 r.0 m)
          in
          is_moved q Day n there.0
          ∙ ap (λ s. with_second s (by_days q.0 n)) there.1
          ∙ ap (with_second r.1) (by_days_twice r.1 r.0 q.0 m n there.2)
          ∙ sym (is_moved r Day (m +ℤ n) is)
    ]

years_there : (r : Date × ℕ) (z : ℤ) → real r.0 ≡ true → InMonth r.1 (min r.0.day) (pos (month_place r.0) +ℤ pos 12 *ℤ z) (moved r Year z)
years_there r z is =
    subst (InMonth r.1 (min r.0.day) (pos (month_place r.0) +ℤ pos 12 *ℤ z)) (sym (is_moved r Year z is))
    (by_months_lem r.1 r.0 (pos 12 *ℤ z) (real_parts r.0 is).day_low)

same_months : (r q : Date × ℕ) (z : ℤ) → moved r Year z ≡ Some q → (q.0.month ≡ r.0.month) × (pos q.0.year ≡ pos r.0.year +ℤ z)
same_months r q z e =
    elim (cases_Bool (real r.0)) [
      | inr not-real ↦ let x : ◌≡◌ {A = ℕ} 0 1 = cc (unmoved r Year z not-real) in absurd (omega arith)
      | inl is ↦
          let there : InMonth r.1 (min r.0.day) (pos (month_place r.0) +ℤ pos 12 *ℤ z) (Some q) =
          subst (InMonth r.1 (min r.0.day) (pos (month_place r.0) +ℤ pos 12 *ℤ z)) e (years_there r z is)
          in
          let old = real_parts r.0 is in
          let new = real_parts q.0 there.0 in
          year_months r.0.year r.0.month q.0.year q.0.month z old.month_low old.month_high new.month_low new.month_high there.2
    ]

-- moves by at most 99 from a day of 1900 to 2099
near_natural : (i k : ℕ) (z w : ℤ) → pos i +ℤ z ≡ w → nat_abs z ≤ k → k ≤ i → (n : ℕ) × (natural w ≡ Some n) × (i ≤ n + k) × (n ≤ i + k)
near_natural i k z (pos n) e small le = (n, refl, omega (arith, ints), omega (arith, ints))
near_natural i k z (negsuc n) e small le = absurd (omega (arith, ints))

some_day : (n : ℕ) → 1 ≤ n → n ≤ 3652425 → date_of n ≢ None
some_day n low high e = elim (no_date n e) [ inl none ↦ omega arith | inr over ↦ omega arith ]

none_mapped : {A B : Type 0} (f : A → B) (o : Option A) → option_map f o ≡ None → o ≡ None
none_mapped f None e = refl
none_mapped f (Some x) e = absurd (none-some (f x) (sym e))

record Inside (d : Date) : Type 0 where
  low : 693962 ≤ number d
  high : number d ≤ 767010
  month_low : 22800 ≤ month_place d
  month_high : month_place d ≤ 25199

inside : (d : Date) → message_day d ≡ true → Inside d
inside d is =
    let years = message_day_lem d is in
    let parts = real_parts d years.2 in
    let days = within d parts in
    let first = years_closed d.year in
    let last = years_up d.year 2100 (omega arith) in
    record { low = omega arith; high = omega (arith, last, years_closed 2100); month_low = omega arith; month_high = omega arith }

seconds_inside : (r : Date × ℕ) (z : ℤ) → message_day r.0 ≡ true → r.1 ≤ 86400 → nat_abs z ≤ 360000 → by_seconds r z ≢ None
unfolding by_seconds
seconds_inside r z is low small e =
    let in_days = inside r.0 is in
    let near = near_natural (instant r) 360000 z (pos (instant r) +ℤ z) refl small (omega (arith, in_days.low)) in
    let none : reading_at near.0 ≡ None = sym (ap (λ o. and_then o reading_at) near.1) ∙ e in
    some_day (near.0 / 86400) (omega (arith, in_days.low, near.2)) (omega (arith, in_days.high, near.3)) (none_mapped _ (date_of (near.0 / 86400)) none)

days_inside : (d : Date) (z : ℤ) → message_day d ≡ true → nat_abs z ≤ 99 → by_days d z ≢ None
unfolding by_days
days_inside d z is small e =
    let in_days = inside d is in
    let near = near_natural (number d) 99 z (pos (number d) +ℤ z) refl small (omega (arith, in_days.low)) in
    some_day near.0 (omega (arith, in_days.low, near.2)) (omega (arith, in_days.high, near.3)) (sym (ap (λ o. and_then o date_of) near.1) ∙ e)

months_inside : (d : Date) (z : ℤ) → message_day d ≡ true → nat_abs z ≤ 1188 → month_from d z ≢ None
unfolding month_from
months_inside d z is small e =
    let in_months = inside d is in
    let near = near_natural (month_place d) 1188 z (pos (month_place d) +ℤ z) refl small (omega (arith, in_months.month_low)) in
    let none : month_at near.0 ≡ None = sym (ap (λ o. and_then o month_at) near.1) ∙ e in
    none-some _ (sym none ∙ cond-true (leb (near.0 / 12) 9999) _ None (le-leb (near.0 / 12) 9999 (omega (arith, in_months.month_high, near.3))))

stays_inside : (r : Date × ℕ) (u : the_unit.Unit) (z : ℤ) → message_day r.0 ≡ true → r.1 ≤ 86400 → nat_abs z ≤ 99 → real_moved r u z ≢ None
unfolding by_months to_month_end
stays_inside r Second z is low small e = seconds_inside r z is low (omega arith) e
stays_inside r Minute z is low small e = seconds_inside r (pos 60 *ℤ z) is low (omega (arith, ints)) e
stays_inside r Hour z is low small e = seconds_inside r (pos 3600 *ℤ z) is low (omega (arith, ints)) e
stays_inside r Day z is low small e = days_inside r.0 z is small (none_mapped _ (by_days r.0 z) e)
stays_inside r Month z is low small e = months_inside r.0 z is (omega arith) (none_mapped _ (month_from r.0 z) (none_mapped _ (by_months r.0 z) e))
stays_inside r Year z is low small e = months_inside r.0 (pos 12 *ℤ z) is (omega (arith, ints)) (none_mapped _ (month_from r.0 (pos 12 *ℤ z)) (none_mapped _ (by_months r.0 (pos 12 *ℤ z)) e))
stays_inside r MonthEnd z is low small e = months_inside r.0 z is (omega arith) (none_mapped _ (month_from r.0 z) (none_mapped _ (to_month_end r.0 z) e))

pub moving : Moving
moving =
    record {
      seconds = λ r z is. subst (AtInstant (pos (instant r) +ℤ z)) (sym (is_moved r Second z is)) (by_seconds_lem r z);
      minutes = λ r z is. subst (AtInstant (pos (instant r) +ℤ pos 60 *ℤ z)) (sym (is_moved r Minute z is)) (by_seconds_lem r (pos 60 *ℤ z));
      hours = λ r z is. subst (AtInstant (pos (instant r) +ℤ pos 3600 *ℤ z)) (sym (is_moved r Hour z is)) (by_seconds_lem r (pos 3600 *ℤ z));
      days = λ r z is. subst (AtDay r.1 (pos (number r.0) +ℤ z)) (sym (is_moved r Day z is)) (by_days_lem r.1 r.0 z);
      days_twice = days_again;
      months = λ r z is. subst (InMonth r.1 (min r.0.day) (pos (month_place r.0) +ℤ z)) (sym (is_moved r Month z is)) (by_months_lem r.1 r.0 z (real_parts r.0 is).day_low);
      years = years_there;
      same_month = same_months;
      month_ends = λ r z is. subst (InMonth r.1 (λ len. len) (pos (month_place r.0) +ℤ z)) (sym (is_moved r MonthEnd z is)) (to_month_end_lem r.1 r.0 z);
      stays_inside = λ r u z is low small e. stays_inside r u z is low small (sym (is_moved r u z (message_day_lem r.0 is).2) ∙ e);
      unreal = unmoved;
    }
