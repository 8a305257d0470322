-- Items of several groups. Assumes nothing.
use Rattle.std.proofs.Common.{◌≡◌, ℕ, ◌≤◌, Bool, true, false, leb, ◌↔◌, List, [], ◌∷◌, Some, None, Option, refl, sym, ap, ◌∙◌}
use Rattle.std.proofs.lemmas.Bool.{le-leb, cond-true}
use Rattle.std.proofs.lemmas.Option.{same_Some}
use Rattle.text.specs.Signs.{pair_of}
use Rattle.calendar.specs.Messages.{full_year}
use Rattle.calendar.specs.Ways.{and_then}
use Rattle.calendar.proofs.Ways.{then_some}
use Rattle.ditems.specs.declared.groups.Groups.{Groups}
use Rattle.ditems.specs.declared.groups.Group.TheVariants.{Month, Day, Hour, Minute, Second}
use Rattle.ditems.specs.Groups.{groups, when, with_group, zeroed, in_year, set_from}
use Rattle.ditems.specs.Times.{some_groups, year_item, time_item}
use Rattle.ditems.specs.MoveLaws.{Figures}
use Rattle.ditems.specs.GroupLaws.{Next, months, days, hours, minutes, seconds, FullYear}
use Rattle.ditems.proofs.Sets.{set_one}
use Rattle.ditems.proofs.Ones.{then_none}
use Rattle.ditems.proofs.Written.{figures_read, figures_written}

-- what follows in two steps follows in one

module _ (k : Groups → Option Groups) (z : Groups → Groups) (same : (s : Groups) → k (z s) ≡ k s) where
  at_set : (o : Option Groups) → and_then o k ≡ and_then (and_then o (λ s. Some (z s))) k
  at_set None = refl
  at_set (Some s) = sym (same s)

  at_pair : (o : Option ℕ) (w : ℕ → Option Groups) → and_then o (λ n. and_then (w n) k) ≡ and_then (and_then o (λ n. and_then (w n) (λ s. Some (z s)))) k
  at_pair None w = refl
  at_pair (Some n) w = at_set (w n)

at_year : (k : Groups → Option Groups) (o : Option ℕ) (f : ℕ → Groups) → and_then o (λ n. k (f n)) ≡ and_then (and_then o (λ n. Some (f n))) k
at_year k None f = refl
at_year k (Some n) f = refl

at_both : (k : Groups → Option Groups) (o p : Option ℕ) (f : ℕ → ℕ → Groups)
    → and_then o (λ m. and_then p (λ n. k (f m n))) ≡ and_then (and_then o (λ m. and_then p (λ n. Some (f m n)))) k
at_both k None p f = refl
at_both k (Some m) p f = at_year k p (f m)

-- what the next group sets need not be 0 before

then_same : (o : Option ℕ) (v w : ℕ → Option Groups) → ((n : ℕ) → v n ≡ w n) → and_then o v ≡ and_then o w
then_same None v w same = refl
then_same (Some n) v w same = same n

when_same : (t : Bool) (x y : Groups) (k : Groups → Option Groups) → k x ≡ k y → and_then (when t x) k ≡ and_then (when t y) k
when_same true x y k e = e
when_same false x y k e = refl

any_second : (c y m d h n s : ℕ) (xs : List ℕ) → set_from (Some Second) (groups c y m d h n 0) xs ≡ set_from (Some Second) (groups c y m d h n s) xs
any_second c y m d h n s [] = refl
any_second c y m d h n s (a ∷ []) = refl
any_second c y m d h n s (a ∷ b ∷ rest) = refl

seconds_set : (s : Groups) (a : ℕ) (rest : List ℕ) → set_from (Some Second) (zeroed s (Some Second)) (a ∷ rest) ≡ set_from (Some Second) s (a ∷ rest)
seconds_set s a [] = refl
seconds_set s a (b ∷ rest) = refl

minutes_set : (s : Groups) (a : ℕ) (rest : List ℕ) → set_from (Some Minute) (zeroed s (Some Minute)) (a ∷ rest) ≡ set_from (Some Minute) s (a ∷ rest)
minutes_set s a [] = refl
minutes_set s a (b ∷ rest) = then_same (pair_of a b) _ _
    (λ n. when_same (leb n 59) (groups s.century s.year s.month s.day s.hour n 0) (groups s.century s.year s.month s.day s.hour n s.second) (λ set. set_from (Some Second) set rest)
    (any_second s.century s.year s.month s.day s.hour n s.second rest))

-- the laws

pub next_group : (g : Groups) (letter next current a b c : ℕ) (rest : List ℕ) → Next letter next
    → time_item g letter current (a ∷ b ∷ c ∷ rest) ≡ and_then (time_item g letter current (a ∷ b ∷ [])) (λ s. time_item s next current (c ∷ rest))
unfolding time_item some_groups year_item
next_group g letter next current a b c rest months =
    at_year (λ s. set_from (Some Month) s (c ∷ rest)) (pair_of a b) (λ n. in_year g (full_year current n))
next_group g letter next current a b c rest days = at_pair (λ s. set_from (Some Day) s (c ∷ rest)) (λ s. s) (λ s. refl) (pair_of a b) (with_group g Month)
next_group g letter next current a b c rest hours = at_pair (λ s. set_from (Some Hour) s (c ∷ rest)) (λ s. s) (λ s. refl) (pair_of a b) (with_group g Day)
next_group g letter next current a b c rest minutes =
    at_pair (λ s. set_from (Some Minute) s (c ∷ rest)) (λ s. zeroed s (Some Minute)) (λ s. minutes_set s c rest) (pair_of a b) (with_group g Hour)
next_group g letter next current a b c rest seconds =
    at_pair (λ s. set_from (Some Second) s (c ∷ rest)) (λ s. zeroed s (Some Second)) (λ s. seconds_set s c rest) (pair_of a b) (with_group g Minute)

none_left : (s : Groups) (c : ℕ) (rest : List ℕ) → set_from None s (c ∷ rest) ≡ None
none_left s c [] = refl
none_left s c (d ∷ rest) = then_none (pair_of c d) _ (λ n. refl)

pub past_second : (g : Groups) (current a b c : ℕ) (rest : List ℕ) → time_item g 83 current (a ∷ b ∷ c ∷ rest) ≡ None
unfolding time_item some_groups
past_second g current a b c rest =
    then_none (pair_of a b) _ (λ n. then_none (with_group g Second n) (λ s. set_from None s (c ∷ rest)) (λ s. none_left s c rest))

module _ (g : Groups) (current a b c d : ℕ) where
  full : (h : Groups) → time_item g 84 current (a ∷ b ∷ c ∷ d ∷ []) ≡ Some h → FullYear g a b c d h
  unfolding time_item some_groups
  full h e =
      let year : ℕ → ℕ → Groups = λ m n. groups m n g.month g.day g.hour g.minute g.second in
      let p = then_some (pair_of a b) (λ m. and_then (pair_of c d) (λ n. Some (year m n))) h e in
      let q = then_some (pair_of c d) (λ n. Some (year p.0 n)) h p.2 in
      record {
        century = p.0;
        year = q.0;
        front = figures_written (a ∷ b ∷ []) p.0 p.1;
        back = figures_written (c ∷ d ∷ []) q.0 q.1;
        set = same_Some (year p.0 q.0) h q.2;
      }

  fully : (h : Groups) → FullYear g a b c d h → time_item g 84 current (a ∷ b ∷ c ∷ d ∷ []) ≡ Some h
  unfolding time_item some_groups
  fully h y =
      ap (λ (o : Option ℕ). and_then o (λ m. and_then (pair_of c d) (λ n. Some (groups m n g.month g.day g.hour g.minute g.second)))) (figures_read y.front)
      ∙ ap (λ (o : Option ℕ). and_then o (λ n. Some (groups y.century n g.month g.day g.hour g.minute g.second))) (figures_read y.back)
      ∙ ap Some y.set

pub full_year_of : (g h : Groups) (current a b c d : ℕ) → (time_item g 84 current (a ∷ b ∷ c ∷ d ∷ []) ≡ Some h) ↔ FullYear g a b c d h
full_year_of g h current a b c d = (full g current a b c d h, fully g current a b c d h)

pub half_year : (g : Groups) (current a b c : ℕ) → time_item g 84 current (a ∷ b ∷ c ∷ []) ≡ None
unfolding time_item some_groups
half_year g current a b c = then_none (pair_of a b) _ (λ n. refl)

pub past_year : (g : Groups) (current a b c d e : ℕ) (rest : List ℕ)
    → time_item g 84 current (a ∷ b ∷ c ∷ d ∷ e ∷ rest) ≡ and_then (time_item g 84 current (a ∷ b ∷ c ∷ d ∷ [])) (λ s. time_item s 77 current (e ∷ rest))
unfolding time_item some_groups
past_year g current a b c d e rest =
    at_both (λ s. set_from (Some Month) s (e ∷ rest)) (pair_of a b) (pair_of c d) (λ m n. groups m n g.month g.day g.hour g.minute g.second)

pub hour_minute : (g : Groups) (current a b c d n k : ℕ) → Figures (a ∷ b ∷ []) n → Figures (c ∷ d ∷ []) k → n ≤ 24 → k ≤ 59
    → time_item g 72 current (a ∷ b ∷ c ∷ d ∷ []) ≡ Some (groups g.century g.year g.month g.day n k 0)
unfolding time_item some_groups
hour_minute g current a b c d n k f m small low =
    let set = groups g.century g.year g.month g.day n g.minute g.second in
    set_one (Some Hour) (Some Minute) g set Hour a b n (c ∷ d ∷ []) (sym (figures_read f)) refl (sym (cond-true _ _ _ (le-leb n 24 small))) refl
    ∙ set_one (Some Minute) (Some Second) set (groups g.century g.year g.month g.day n k g.second) Minute c d k [] (sym (figures_read m)) refl (sym (cond-true _ _ _ (le-leb k 59 low))) refl
