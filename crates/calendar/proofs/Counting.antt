-- The closed formula for the days of the years before, and the months of a year.
use Rattle.std.proofs.Common.{◌≡◌, ℕ, zero, suc, ◌+◌, ◌-◌, ◌*◌, ◌/◌, ◌%◌, ◌<◌, ◌≤◌, min, max, true, false, cond, leb, sym, refl, ap, ◌∙◌, subst, inl, inr, add-one, arith}
use Rattle.std.proofs.lemmas.Bool.{cases_lt, cond_both}
use Rattle.std.proofs.lemmas.Bool.Decides.{nat_tests, eqb_tells}
use Rattle.calendar.specs.Dates.{leap, year_length, month_length, years_before, months_before}

abbrev pub closed : ℕ → ℕ
closed y = 365 * y + (y + 3) / 4 - (y + 99) / 100 + (y + 399) / 400

pub closed_step : (y : ℕ) → closed (suc y) ≡ closed y + year_length y
closed_step y =
    elim (eqb_tells (y % 4) 0) [
      | inr e ↦ grind (arith, e)
      | inl four ↦ elim (eqb_tells (y % 100) 0) [
        | inr e ↦ grind (arith, four, e)
        | inl hundred ↦ elim (eqb_tells (y % 400) 0) [
          | inr e ↦ grind (arith, four, hundred, e)
          | inl all ↦ grind (arith, four, hundred, all)
        ]
      ]
    ]

pub years_closed : (y : ℕ) → years_before y ≡ closed y
unfolding years_before
years_closed zero = refl
years_closed (suc y) = ap (λ n. n + year_length y) (years_closed y) ∙ sym (closed_step y)

-- a year lies wholly before each later one
pub years_up : (y z : ℕ) → y < z → years_before y + year_length y ≤ years_before z
unfolding years_before
years_up y zero lt = omega arith
years_up y (suc z) lt =
    elim (cases_lt y z) [
      | inl less ↦ omega (arith, years_up y z less)
      | inr ge ↦ let e : y ≡ z = omega arith in rw e (omega arith)
    ]

-- a month lies wholly before each later one
pub months_up : (y m n : ℕ) → m < n → months_before y m + month_length y m ≤ months_before y n
unfolding months_before
months_up y m zero lt = omega arith
months_up y m (suc n) lt =
    elim (cases_lt m n) [
      | inl less ↦ omega (arith, months_up y m n less)
      | inr ge ↦ let e : m ≡ n = omega arith in rw e (omega arith)
    ]

-- the months make up the year
pub months_all : (y : ℕ) → months_before y 13 ≡ year_length y
unfolding months_before month_length
months_all y = elim (leap y) as (λ b. 31 + cond b 29 28 + 31 + 30 + 31 + 30 + 31 + 31 + 30 + 31 + 30 + 31 ≡ cond b 366 365) [ true ↦ refl | false ↦ refl ]

pub month_bounds : (y m : ℕ) → 0 < month_length y m → (1 ≤ m) × (m ≤ 12)
unfolding month_length
month_bounds y m some = grind (arith, nat_tests)

pub month_long : (y m : ℕ) → month_length y m ≤ 31
unfolding month_length
month_long y m = grind (arith, nat_tests)

no_month : (y m : ℕ) → 13 ≤ m → month_length y m ≡ 0
unfolding month_length
no_month y m h = grind (arith, nat_tests)

pub months_most : (y m : ℕ) → months_before y m ≤ 366
unfolding months_before
months_most y zero = omega arith
months_most y (suc m) =
    elim (cases_lt m 13) [
      | inl lt ↦
          let year : year_length y ≤ 366 = cond_both (leap y) 366 365 (λ n. n ≤ 366) (λ _. omega arith) (λ _. omega arith) in
          omega (arith, months_up y m 13 lt, months_all y)
      | inr ge ↦ omega (arith, months_most y m, no_month y m ge)
    ]

pub years_most : (y : ℕ) → years_before y ≤ 366 * y
unfolding years_before
years_most zero = omega arith
years_most (suc y) =
    let year : year_length y ≤ 366 = cond_both (leap y) 366 365 (λ n. n ≤ 366) (λ _. omega arith) (λ _. omega arith) in
    omega (arith, years_most y)

year_low : (n g : ℕ) → 1 ≤ n → g * 146097 ≤ (n - 1) * 400 → (n - 1) * 400 < (g + 1) * 146097 → n ≤ closed g → closed (g - 1) < n
year_low n g some low high h = omega arith

year_high : (n g : ℕ) → 1 ≤ n → g * 146097 ≤ (n - 1) * 400 → (n - 1) * 400 < (g + 1) * 146097 → n ≤ closed (g + 1 + 1)
year_high n g some low high = omega arith

-- the year by the mean length of years is missed by one at most
pub record Near (n g : ℕ) : Type 0 where
  pub low : n ≤ years_before g → (1 ≤ g) × (years_before (g - 1) < n)
  pub high : n ≤ years_before (g + 1 + 1)

year_back : (n g : ℕ) → 1 ≤ n → n ≤ closed g → 1 ≤ g
year_back n zero some h = absurd (omega arith)
year_back n (suc g) some h = omega arith

pub near_year : (n g : ℕ) → 1 ≤ n → g ≡ (n - 1) * 400 / 146097 → Near n g
near_year n g some is =
    let low : g * 146097 ≤ (n - 1) * 400 = omega arith in
    let high : (n - 1) * 400 < (g + 1) * 146097 = omega arith in
    record {
      low = λ h. let h' : n ≤ closed g = subst (λ k. n ≤ k) (years_closed g) h in
          (year_back n g some h', subst (λ k. k < n) (sym (years_closed (g - 1))) (year_low n g some low high h'));
      high = subst (λ k. n ≤ k) (sym (years_closed (g + 1 + 1))) (year_high n g some low high);
    }

pub month_more : (y m : ℕ) → months_before y (m + 1) ≡ months_before y m + month_length y m
unfolding months_before
month_more y m = rw add-one refl

pub year_more : (y : ℕ) → years_before (y + 1) ≡ years_before y + year_length y
unfolding years_before
year_more y = rw add-one refl

pub month_first : (y : ℕ) → months_before y 1 ≡ 0
unfolding months_before month_length
month_first y = refl

-- the days before a month, by a formula in which February has 30 days
abbrev months_formula : ℕ → ℕ → ℕ
months_formula y m = (367 * m - 362) / 12 - cond (leb m 2) 0 (cond (leap y) 1 2)

formula_step : (y m : ℕ) → 1 ≤ m → m ≤ 12 → months_formula y (suc m) ≡ months_formula y m + month_length y m
unfolding month_length
formula_step y m low high = grind (arith, nat_tests)

formula_holds : (y m : ℕ) → 1 ≤ m → m ≤ 13 → months_before y m ≡ months_formula y m
unfolding months_before month_length
formula_holds y zero low high = absurd (omega arith)
formula_holds y (suc m) low high =
    elim (cases_lt 0 m) [
      | inl some ↦ ap (λ n. n + month_length y m) (formula_holds y m some (omega arith)) ∙ sym (formula_step y m some (omega arith))
      | inr none ↦ let first : m ≡ 0 = omega arith in rw first refl
    ]

-- from the thirteenth month on all of the year lies before
months_over : (y m : ℕ) → 13 ≤ m → months_before y m ≡ months_before y 13
unfolding months_before
months_over y zero h = absurd (omega arith)
months_over y (suc m) h =
    elim (cases_lt m 13) [
      | inl lt ↦ let e : m ≡ 12 = omega arith in rw e refl
      | inr ge ↦ omega (arith, months_over y m ge, no_month y m ge)
    ]

months_kept : (y m n : ℕ) → n ≡ max 1 (min m 13) → months_before y m ≡ months_before y n
unfolding months_before month_length
months_kept y zero n e = let first : n ≡ 1 = omega arith in rw first refl
months_kept y (suc m) n e =
    elim (cases_lt (suc m) 13) [
      | inl lt ↦ let same : suc m ≡ n = omega arith in ap (months_before y) same
      | inr ge ↦ let last : 13 ≡ n = omega arith in months_over y (suc m) ge ∙ ap (months_before y) last
    ]

pub months_closed : (y m n : ℕ) → n ≡ max 1 (min m 13) → months_before y m ≡ months_formula y n
months_closed y m n e = months_kept y m n e ∙ formula_holds y n (omega arith) (omega arith)
