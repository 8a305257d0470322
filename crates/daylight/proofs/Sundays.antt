-- The Sundays of the law, and the entries of a list.
use Rattle.std.proofs.Common.{◌≡◌, ℕ, ◌+◌, ◌-◌, ◌*◌, ◌<◌, ◌≤◌, false, ◌⊎◌, List, [], ◌∷◌, ◌++◌, Some, refl, ap, ◌∙◌, sym, subst, inl, inr, arith}
use Rattle.std.proofs.lemmas.Bool.{cond-true, cond-false, eq-eqb, ne_eqb}
use Rattle.std.proofs.lemmas.Bool.Decides.{nat_tests}
use Rattle.std.specs.List.{AllByRecursion}
use Rattle.std.specs.Option.{option_map}
use Rattle.calendar.specs.declared.date.Date.{Date}
use Rattle.calendar.specs.Dates.{month_length}
use Rattle.calendar.specs.Weekdays.{nth_sunday}
use Rattle.calendar.proofs.Weekdays.{to_sunday, sunday_number, number_sunday, nth_at}
use Rattle.daylight.specs.declared.span.MonthDay.{MonthDay}
use Rattle.daylight.specs.declared.list_rule.Change.{Change}
use Rattle.daylight.specs.Spans.{before_change, between}
use Rattle.daylight.specs.Sundays.{first_sunday_of_november, between_both, law_daylight}
use Rattle.daylight.specs.Listed.{list_daylight}
use Rattle.daylight.specs.Rules.{SundayAmong, FoundAmong, Rules}

module _ (y m : ℕ) where
  -- the Sunday of the days 7 w + 1 to 7 w + 7 is the one behind w others
  week_sunday : (w d : ℕ) → 7 * w + 7 ≤ month_length y m → SundayAmong y m (7 * w + 1) (7 * w + 7) d → nth_sunday y m (w + 1) ≡ Some d
  week_sunday w d long is =
      let left = sunday_number y m d is.is_sunday in
      nth_at y m (w + 1) d (omega arith) (omega (arith, is.not_after)) (omega (arith, is.not_before, is.not_after))

  week_found : (w : ℕ) → 7 * w + 7 ≤ month_length y m → FoundAmong y m (7 * w + 1) (7 * w + 7) (nth_sunday y m (w + 1))
  week_found w long =
      let d = 1 + to_sunday y m + 7 * w in
      subst (FoundAmong y m (7 * w + 1) (7 * w + 7)) (sym (nth_at y m (w + 1) d (omega arith) (omega arith) (omega arith)))
      (record { not_before = omega arith; not_after = omega arith; is_sunday = number_sunday y m d (omega arith) })

  week_earlier : (d : ℕ) → SundayAmong y m 8 14 d → SundayAmong y m 1 7 (d - 7)
  week_earlier d is =
      record {
        not_before = omega (arith, is.not_before);
        not_after = omega (arith, is.not_after);
        is_sunday = number_sunday y m (d - 7) (omega (arith, sunday_number y m d is.is_sunday, is.not_before));
      }

law_days : (r : Date × ℕ) (a b : ℕ) → SundayAmong r.0.year 3 8 14 a → SundayAmong r.0.year 11 1 7 b → law_daylight r ≡ between (record { month = 3; day = a }) (record { month = 11; day = b }) r
unfolding month_length
law_days r a b is-a is_b =
    ap (λ o. between_both (option_map (λ d. record { month = 3; day = d }) o) (first_sunday_of_november r.0.year) r) (week_sunday r.0.year 3 1 a (omega arith) is-a)
    ∙ ap (λ o. between_both (Some (record { month = 3; day = a })) (option_map (λ d. record { month = 11; day = d }) o) r) (week_sunday r.0.year 11 0 b (omega arith) is_b)

first_listed : (cs ds : List Change) (c : Change) (r : Date × ℕ) → AllByRecursion (λ e. e.year ≡ r.0.year → ⊥) cs → c.year ≡ r.0.year → list_daylight (cs ++ (c ∷ ds)) r ≡ between c.first c.last r
first_listed [] ds c r others same = cond-true _ _ _ (eq-eqb c.year r.0.year same)
first_listed (x ∷ cs) ds c r others same =
    cond-false _ (between x.first x.last r) _ (ne_eqb x.year r.0.year others.0) ∙ first_listed cs ds c r others.1 same

not_listed : (cs : List Change) (r : Date × ℕ) → AllByRecursion (λ e. e.year ≡ r.0.year → ⊥) cs → list_daylight cs r ≡ false
not_listed [] r others = refl
not_listed (x ∷ cs) r others =
    cond-false _ (between x.first x.last r) _ (ne_eqb x.year r.0.year others.0) ∙ not_listed cs r others.1

nothing_between : (a b : MonthDay) (r : Date × ℕ) → (b.month < a.month) ⊎ ((b.month ≡ a.month) × (b.day ≤ a.day)) → between a b r ≡ false
unfolding between before_change
nothing_between a b r (inl lt) = grind (arith, nat_tests)
nothing_between a b r (inr le) = grind (arith, nat_tests)

pub rules : Rules
unfolding month_length
rules =
    record {
      march = λ y. week_found y 3 1 (omega arith);
      november = λ y. week_found y 11 0 (omega arith);
      by_law = law_days;
      week_before = week_earlier;
      first_entry = first_listed;
      unlisted = not_listed;
      no_span = nothing_between;
    }
