-- The field of a date writes it.
use Rattle.std.proofs.Common.{◌≡◌, ℕ, ◌+◌, ◌-◌, ◌*◌, ◌/◌, ◌%◌, ◌<◌, ◌≤◌, true, ◌&&◌, eqb, leb, List, [], ◌∷◌, ◌++◌, length, Some, None, sym, refl, ap, ◌∙◌, subst, inl, inr, arith}
use Rattle.std.proofs.lemmas.Bool.{cond-true, cond-false, ne_eqb, and_parts, and_from, leb-true, le-leb}
use Rattle.std.proofs.lemmas.Option.{cond_some, none-some}
use Rattle.text.specs.Signs.{digit, pair_of}
use Rattle.calendar.specs.declared.date.Date.{Date}
use Rattle.calendar.specs.Dates.{message_day}
use Rattle.calendar.specs.Messages.{full_year, candidate, nearest_date, message_date}
use Rattle.calendar.specs.Nearest.{Nearest}
use Rattle.calendar.specs.Written.{pair, mmdd, yymmdd, ccyymmdd, Writes}
use Rattle.calendar.proofs.Counting.{month_long}
use Rattle.calendar.proofs.Dates.{real_parts}
use Rattle.calendar.proofs.Ways.{then_some, then_known}
use Rattle.calendar.proofs.Nearest.{message_day_lem, nearest_there, in_century}

-- two digits are those of the number that they write, which is below 100
record Digits (a b n : ℕ) : Type 0 where
  tens : a ≡ 48 + n / 10
  ones : b ≡ 48 + n % 10
  low : n < 100

digits_of : (a b n m : ℕ) → pair_of a b ≡ Some n → m ≡ n → Digits a b m
digits_of a b n m e same =
    let is = cond_some (digit a && digit b) ((a - 48) * 10 + (b - 48)) n e in
    let both = and_parts (digit a) (digit b) is.0 in
    let first = and_parts (leb 48 a) (leb a 57) both.0 in
    let second = and_parts (leb 48 b) (leb b 57) both.1 in
    let a_low = leb-true 48 a first.0 in
    let a_high = leb-true a 57 first.1 in
    let b_low = leb-true 48 b second.0 in
    let b_high = leb-true b 57 second.1 in
    record { tens = omega (arith, is.1); ones = omega (arith, is.1); low = omega (arith, is.1) }

pair_back : (n : ℕ) → n < 100 → pair_of (48 + n / 10) (48 + n % 10) ≡ Some n
pair_back n low =
    let test = and_from (digit (48 + n / 10)) (digit (48 + n % 10))
    (and_from _ _ (le-leb 48 (48 + n / 10) (omega arith)) (le-leb (48 + n / 10) 57 (omega arith)))
    (and_from _ _ (le-leb 48 (48 + n % 10) (omega arith)) (le-leb (48 + n % 10) 57 (omega arith)))
    in
    cond-true _ (Some ((48 + n / 10 - 48) * 10 + (48 + n % 10 - 48))) None test ∙ ap Some (omega arith)

same_pairs : (a b n : ℕ) (s t : List ℕ) → Digits a b n → s ≡ t → a ∷ b ∷ s ≡ pair n ++ t
same_pairs a b n s t is same = ap (λ x. x ∷ b ∷ s) is.tens ∙ ap (λ x. (48 + n / 10) ∷ x ∷ s) is.ones ∙ ap (λ x. (48 + n / 10) ∷ (48 + n % 10) ∷ x) same

-- a date that is found is the one looked for
of_candidate : (y m d : ℕ) (e : Date) → candidate y m d ≡ Some e → (e.year ≡ y) × (e.month ≡ m) × (e.day ≡ d)
unfolding candidate
of_candidate y m d e is =
    let date : Date = record { year = y; month = m; day = d } in
    let same = (cond_some (message_day date) date e is).1 in
    (sym (ap (λ (x : Date). x.year) same), sym (ap (λ (x : Date). x.month) same), sym (ap (λ (x : Date). x.day) same))

of_nearest : (cur : Date) (m d : ℕ) (e : Date) → nearest_date cur m d ≡ Some e → (e.month ≡ m) × (e.day ≡ d)
of_nearest cur m d e is =
    let near : Nearest cur m d (Some e) = subst (Nearest cur m d) is (nearest_there cur m d) in
    (near.0.wanted_month, near.0.wanted_day)

month_and_day : (a b c d : ℕ) (e : Date) → Digits a b e.month → Digits c d e.day → a ∷ b ∷ c ∷ d ∷ [] ≡ mmdd e
month_and_day a b c d e month day = same_pairs a b e.month (c ∷ d ∷ []) (pair e.day) month (same_pairs c d e.day [] [] day refl)

two_of_year : (current two year : ℕ) → two < 100 → year ≡ full_year current two → year % 100 ≡ two
two_of_year current two year low is = elim (in_century current two) [ inl e ↦ omega (arith, is, e) | inr e ↦ omega (arith, is, e) ]

no_form : (s : List ℕ) (cur : Date) → 9 ≤ length s → message_date s cur ≡ None
unfolding message_date
no_form s cur long =
    cond-false (eqb (length s) 4) _ _ (ne_eqb (length s) 4 (λ e. omega arith))
    ∙ cond-false (eqb (length s) 6) _ _ (ne_eqb (length s) 6 (λ e. omega arith))
    ∙ cond-false (eqb (length s) 8) _ None (ne_eqb (length s) 8 (λ e. omega arith))

pub written : (s : List ℕ) (cur d : Date) → message_date s cur ≡ Some d → Writes cur.year s d
unfolding message_date
written [] cur e is = absurd (none-some e is)
written (m1 ∷ []) cur e is = absurd (none-some e is)
written (m1 ∷ m2 ∷ []) cur e is = absurd (none-some e is)
written (m1 ∷ m2 ∷ d1 ∷ []) cur e is = absurd (none-some e is)
written (m1 ∷ m2 ∷ d1 ∷ d2 ∷ []) cur e is =
    let m = then_some (pair_of m1 m2) _ e is in
    let d = then_some (pair_of d1 d2) _ e m.2 in
    let so = of_nearest cur m.0 d.0 e d.2 in
    inl (month_and_day m1 m2 d1 d2 e (digits_of m1 m2 m.0 e.month m.1 so.0) (digits_of d1 d2 d.0 e.day d.1 so.1))
written (y1 ∷ y2 ∷ m1 ∷ m2 ∷ d1 ∷ []) cur e is = absurd (none-some e is)
written (y1 ∷ y2 ∷ m1 ∷ m2 ∷ d1 ∷ d2 ∷ []) cur e is =
    let y = then_some (pair_of y1 y2) _ e is in
    let m = then_some (pair_of m1 m2) _ e y.2 in
    let d = then_some (pair_of d1 d2) _ e m.2 in
    let so = of_candidate (full_year cur.year y.0) m.0 d.0 e d.2 in
    let two = two_of_year cur.year y.0 e.year (digits_of y1 y2 y.0 y.0 y.1 refl).low so.0 in
    inr (inl (
      same_pairs y1 y2 (e.year % 100) (m1 ∷ m2 ∷ d1 ∷ d2 ∷ []) (mmdd e) (digits_of y1 y2 y.0 (e.year % 100) y.1 two)
          (month_and_day m1 m2 d1 d2 e (digits_of m1 m2 m.0 e.month m.1 so.1) (digits_of d1 d2 d.0 e.day d.1 so.2)),
      ap (full_year cur.year) two ∙ sym so.0,
    ))
written (c1 ∷ c2 ∷ y1 ∷ y2 ∷ m1 ∷ m2 ∷ d1 ∷ []) cur e is = absurd (none-some e is)
written (c1 ∷ c2 ∷ y1 ∷ y2 ∷ m1 ∷ m2 ∷ d1 ∷ d2 ∷ []) cur e is =
    let c = then_some (pair_of c1 c2) _ e is in
    let y = then_some (pair_of y1 y2) _ e c.2 in
    let m = then_some (pair_of m1 m2) _ e y.2 in
    let d = then_some (pair_of d1 d2) _ e m.2 in
    let so = of_candidate (c.0 * 100 + y.0) m.0 d.0 e d.2 in
    let low = (digits_of y1 y2 y.0 y.0 y.1 refl).low in
    inr (inr (
    same_pairs c1 c2 (e.year / 100) (y1 ∷ y2 ∷ m1 ∷ m2 ∷ d1 ∷ d2 ∷ []) (yymmdd e) (digits_of c1 c2 c.0 (e.year / 100) c.1 (omega (arith, so.0, low)))
    (same_pairs y1 y2 (e.year % 100) (m1 ∷ m2 ∷ d1 ∷ d2 ∷ []) (mmdd e) (digits_of y1 y2 y.0 (e.year % 100) y.1 (omega (arith, so.0, low)))
    (month_and_day m1 m2 d1 d2 e (digits_of m1 m2 m.0 e.month m.1 so.1) (digits_of d1 d2 d.0 e.day d.1 so.2)))))
written (c1 ∷ c2 ∷ y1 ∷ y2 ∷ m1 ∷ m2 ∷ d1 ∷ d2 ∷ more ∷ rest) cur e is =
    absurd (none-some e (sym (no_form (c1 ∷ c2 ∷ y1 ∷ y2 ∷ m1 ∷ m2 ∷ d1 ∷ d2 ∷ more ∷ rest) cur (omega arith)) ∙ is))

candidate_back : (d : Date) → message_day d ≡ true → (y : ℕ) → y ≡ d.year → candidate y d.month d.day ≡ Some d
unfolding candidate
candidate_back d is y same = ap (λ (n : ℕ). candidate n d.month d.day) same ∙ cond-true (message_day d) (Some d) None is

-- a month and a day of the calendar have two digits
record Short (d : Date) : Type 0 where
  month : d.month < 100
  day : d.day < 100
  year : d.year < 10000

short : (d : Date) → message_day d ≡ true → Short d
short d is =
    let parts = real_parts d (message_day_lem d is).2 in
    record { month = omega (arith, parts.month_high); day = omega (arith, parts.day_high, month_long d.year d.month); year = omega (arith, parts.year) }

pub whole_back : (cur d : Date) → message_day d ≡ true → message_date (ccyymmdd d) cur ≡ Some d
unfolding message_date
whole_back cur d is =
    let low = short d is in
    then_known _ (d.year / 100) _ (pair_back (d.year / 100) (omega (arith, low.year)))
    ∙ then_known _ (d.year % 100) _ (pair_back (d.year % 100) (omega arith))
    ∙ then_known _ d.month _ (pair_back d.month low.month)
    ∙ then_known _ d.day _ (pair_back d.day low.day)
    ∙ candidate_back d is ((d.year / 100) * 100 + d.year % 100) (omega arith)

pub short_back : (cur d : Date) → message_day d ≡ true → full_year cur.year (d.year % 100) ≡ d.year → message_date (yymmdd d) cur ≡ Some d
unfolding message_date
short_back cur d is same =
    let low = short d is in
    then_known _ (d.year % 100) _ (pair_back (d.year % 100) (omega arith))
    ∙ then_known _ d.month _ (pair_back d.month low.month)
    ∙ then_known _ d.day _ (pair_back d.day low.day)
    ∙ candidate_back d is (full_year cur.year (d.year % 100)) same
