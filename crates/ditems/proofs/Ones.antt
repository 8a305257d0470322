-- Items of one group. Assumes nothing.
use Rattle.std.proofs.Common.{◌≡◌, ℕ, ◌+◌, ◌*◌, ◌/◌, ◌%◌, ◌<◌, leb, ◌↔◌, List, [], ◌∷◌, Contains, codes, Some, None, Option, refl, sym, ap, ap₂, ◌∙◌, subst, ⊎_elim, arith}
use Rattle.std.proofs.lemmas.Bool.{and_parts, and_from, leb-true, le-leb, cond-true, cond-false, cases_Bool}
use Rattle.std.proofs.lemmas.Option.{none-some, same_Some}
use Rattle.text.specs.Signs.{pair_of}
use Rattle.calendar.specs.Messages.{apart, full_year}
use Rattle.calendar.specs.Ways.{and_then}
use Rattle.calendar.proofs.Ways.{then_some}
use Rattle.ditems.specs.declared.groups.Groups.{Groups}
use Rattle.ditems.specs.declared.groups.Group.{Group}
use Rattle.ditems.specs.declared.groups.Group.TheVariants.{Century, Year, Month, Day, Hour, Minute, Second}
use Rattle.ditems.specs.Groups.{groups, within, with_group, smaller, zeroed, in_year, set_from}
use Rattle.ditems.specs.Times.{group_of, some_groups, year_item, groups_item, time_item}
use Rattle.ditems.specs.MoveLaws.{Figures, two}
use Rattle.ditems.specs.GroupLaws.{Makes, century, year, month, day, hour, minute, second, OneGroup}
use Rattle.ditems.proofs.Sets.{set_one}
use Rattle.ditems.proofs.Somes.{when-some, one_of}
use Rattle.ditems.proofs.Written.{figures_read, figures_written}

-- the letter at which an item begins with the group
abbrev pub first_letter : Group → ℕ
first_letter Century = 84
first_letter Year = 89
first_letter Month = 77
first_letter Day = 68
first_letter Hour = 72
first_letter Minute = 78
first_letter Second = 83

pub letter_known : (b : ℕ) (u : Group) → group_of b ≡ Some u → b ≡ first_letter u
letter_known b u =
    let step = one_of (λ (v : Group). b ≡ first_letter v) b in
    step 84 Century u _ (λ e. e)
    (step 89 Year u _ (λ e. e)
    (step 77 Month u _ (λ e. e)
    (step 68 Day u _ (λ e. e)
    (step 72 Hour u _ (λ e. e)
    (step 78 Minute u _ (λ e. e)
    (step 83 Second u None (λ e. e) (λ e. absurd (none-some u e))))))))

begins : (b : ℕ) (u : Group) → group_of b ≡ Some u → Contains (codes "TYMDHNS") b
begins b u =
    let step = one_of (λ (v : Group). Contains (codes "TYMDHNS") b) b in
    step 84 Century u _ (λ e. (0, omega arith, sym e))
    (step 89 Year u _ (λ e. (1, omega arith, sym e))
    (step 77 Month u _ (λ e. (2, omega arith, sym e))
    (step 68 Day u _ (λ e. (3, omega arith, sym e))
    (step 72 Hour u _ (λ e. (4, omega arith, sym e))
    (step 78 Minute u _ (λ e. (5, omega arith, sym e))
    (step 83 Second u None (λ e. (6, omega arith, sym e)) (λ e. absurd (none-some u e))))))))

pub letters : (g h : Groups) (letter current : ℕ) (digits : List ℕ) → time_item g letter current digits ≡ Some h → Contains (codes "TYMDHNS") letter
unfolding time_item
letters g h letter current digits e =
    let p = then_some (group_of letter) (groups_item g current digits) h e in
    begins letter p.0 p.1

-- the year of two digits

small : {a b n : ℕ} → Figures (a ∷ b ∷ []) n → n < 100
small (two t d ht hd) = omega (arith, ht, hd)

century_of : (c n : ℕ) → n < 100 → (c * 100 + n) / 100 ≡ c
century_of c n lt = omega (arith, lt)

rest_of : (c n : ℕ) → n < 100 → (c * 100 + n) % 100 ≡ n
rest_of c n lt = omega (arith, lt)

year_at : (g : Groups) (y c n : ℕ) → n < 100 → y ≡ c * 100 + n → in_year g y ≡ groups c n g.month g.day g.hour g.minute g.second
year_at g y c n lt e =
    ap (in_year g) e ∙ ap₂ (λ (p q : ℕ). groups p q g.month g.day g.hour g.minute g.second) (century_of c n lt) (rest_of c n lt)

year_parts : (current n : ℕ) → (c : ℕ) × (full_year current n ≡ c * 100 + n)
year_parts current n =
    let near = leb (apart current (1900 + n)) (apart current (2000 + n)) in
    ⊎_elim (λ t. (19, cond-true near (1900 + n) (2000 + n) t)) (λ f. (20, cond-false near (1900 + n) (2000 + n) f)) (cases_Bool near)

-- what a group makes is what its item makes

module _ (g h : Groups) (current a b : ℕ) where
  into : (letter n : ℕ) → Figures (a ∷ b ∷ []) n → Makes g current n letter h → OneGroup g letter current a b h
  into letter n f m = record { number = n; digits = f; makes = m }

  clock : (group : Group) (letter : ℕ)
      → ((n : ℕ) (s : Groups) → with_group g group n ≡ Some s → Makes g current n letter (zeroed s (smaller group)))
      → set_from (Some group) g (a ∷ b ∷ []) ≡ Some h → OneGroup g letter current a b h
  clock group letter each e =
      let p = then_some (pair_of a b) (λ n. and_then (with_group g group n) (λ set. set_from (smaller group) set [])) h e in
      let q = then_some (with_group g group p.0) (λ set. set_from (smaller group) set []) h p.2 in
      into letter p.0 (figures_written (a ∷ b ∷ []) p.0 p.1) (subst (Makes g current p.0 letter) (same_Some (zeroed q.0 (smaller group)) h q.2) (each p.0 q.0 q.1))

  by_group : (group : Group) → groups_item g current (a ∷ b ∷ []) group ≡ Some h → OneGroup g (first_letter group) current a b h
  unfolding some_groups year_item
  by_group Century e = clock Century 84 (λ n s w. subst (Makes g current n 84) (same_Some _ s w) century) e
  by_group Year e =
      let p = then_some (pair_of a b) (λ n. set_from (Some Month) (in_year g (full_year current n)) []) h e in
      let f = figures_written (a ∷ b ∷ []) p.0 p.1 in
      let y = year_parts current p.0 in
      let made = year_at g (full_year current p.0) y.0 p.0 (small f) y.1 in
      into 89 p.0 f (subst (Makes g current p.0 89) (sym made ∙ same_Some _ h p.2) (year y.0 y.1))
  by_group Month e = clock Month 77
      (λ n s w.
      let p = when-some (within 1 n 12) _ s w in
      let q = and_parts (leb 1 n) (leb n 12) p.0 in
      subst (Makes g current n 77) p.1 (month (leb-true 1 n q.0) (leb-true n 12 q.1))) e
  by_group Day e = clock Day 68
      (λ n s w.
      let p = when-some (within 1 n 31) _ s w in
      let q = and_parts (leb 1 n) (leb n 31) p.0 in
      subst (Makes g current n 68) p.1 (day (leb-true 1 n q.0) (leb-true n 31 q.1))) e
  by_group Hour e = clock Hour 72
      (λ n s w.
      let p = when-some (leb n 24) _ s w in
      subst (λ (x : Groups). Makes g current n 72 (zeroed x (Some Minute))) p.1 (hour (leb-true n 24 p.0))) e
  by_group Minute e = clock Minute 78
      (λ n s w.
      let p = when-some (leb n 59) _ s w in
      subst (λ (x : Groups). Makes g current n 78 (zeroed x (Some Second))) p.1 (minute (leb-true n 59 p.0))) e
  by_group Second e = clock Second 83
      (λ n s w.
      let p = when-some (leb n 59) _ s w in
      subst (Makes g current n 83) p.1 (second (leb-true n 59 p.0))) e

  only : (letter : ℕ) → time_item g letter current (a ∷ b ∷ []) ≡ Some h → OneGroup g letter current a b h
  unfolding time_item
  only letter e =
      let p = then_some (group_of letter) (groups_item g current (a ∷ b ∷ [])) h e in
      subst (λ (l : ℕ). OneGroup g l current a b h) (sym (letter_known letter p.0 p.1)) (by_group p.0 p.2)

module _ (g : Groups) (current a b n : ℕ) (pair : pair_of a b ≡ Some n) where
  set_made : (group : Group) (s : Groups) → with_group g group n ≡ Some s → set_from (Some group) g (a ∷ b ∷ []) ≡ Some (zeroed s (smaller group))
  set_made group s w = set_one (Some group) (smaller group) g s group a b n [] (sym pair) refl (sym w) refl

  made : (letter : ℕ) (h : Groups) → n < 100 → Makes g current n letter h → time_item g letter current (a ∷ b ∷ []) ≡ Some h
  unfolding time_item some_groups year_item
  made letter h lt century = set_made Century _ refl
  made letter h lt (year c e) =
      ap (λ (o : Option ℕ). and_then o (λ m. set_from (Some Month) (in_year g (full_year current m)) [])) pair
      ∙ ap Some (year_at g (full_year current n) c n lt e)
  made letter h lt (month low high) = set_made Month _ (cond-true _ _ _ (and_from (leb 1 n) (leb n 12) (le-leb 1 n low) (le-leb n 12 high)))
  made letter h lt (day low high) = set_made Day _ (cond-true _ _ _ (and_from (leb 1 n) (leb n 31) (le-leb 1 n low) (le-leb n 31 high)))
  made letter h lt (hour high) = set_made Hour _ (cond-true _ _ _ (le-leb n 24 high))
  made letter h lt (minute high) = set_made Minute _ (cond-true _ _ _ (le-leb n 59 high))
  made letter h lt (second high) = set_made Second _ (cond-true _ _ _ (le-leb n 59 high))

pub one_group : (g h : Groups) (letter current a b : ℕ) → (time_item g letter current (a ∷ b ∷ []) ≡ Some h) ↔ OneGroup g letter current a b h
one_group g h letter current a b =
    (only g h current a b letter, λ o. made g current a b o.number (figures_read o.digits) letter h (small o.digits) o.makes)

-- fewer than two digits

no_groups : (g : Groups) (current : ℕ) (group : Group) → groups_item g current [] group ≡ None
unfolding some_groups year_item
no_groups g current Century = refl
no_groups g current Year = refl
no_groups g current Month = refl
no_groups g current Day = refl
no_groups g current Hour = refl
no_groups g current Minute = refl
no_groups g current Second = refl

half_groups : (g : Groups) (current a : ℕ) (group : Group) → groups_item g current (a ∷ []) group ≡ None
unfolding some_groups year_item
half_groups g current a Century = refl
half_groups g current a Year = refl
half_groups g current a Month = refl
half_groups g current a Day = refl
half_groups g current a Hour = refl
half_groups g current a Minute = refl
half_groups g current a Second = refl

pub then_none : {A B : Type 0} (o : Option A) (f : A → Option B) → ((x : A) → f x ≡ None) → and_then o f ≡ None
then_none None f n = refl
then_none (Some x) f n = n x

pub no_group : (g : Groups) (letter current : ℕ) → time_item g letter current [] ≡ None
unfolding time_item
no_group g letter current = then_none (group_of letter) (groups_item g current []) (no_groups g current)

pub half_group : (g : Groups) (letter current a : ℕ) → time_item g letter current (a ∷ []) ≡ None
unfolding time_item
half_group g letter current a = then_none (group_of letter) (groups_item g current (a ∷ [])) (half_groups g current a)
