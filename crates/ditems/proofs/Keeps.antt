-- Items of the clock keep the date. Assumes nothing.
use Rattle.std.proofs.Common.{◌≡◌, ℕ, ◌≤◌, Bool, cond, leb, ◌⊎◌, List, [], ◌∷◌, Some, None, Option, refl, ap, ◌∙◌, subst, inl, inr}
use Rattle.std.proofs.lemmas.Bool.{le-leb}
use Rattle.std.proofs.lemmas.Option.{none-some, same_Some}
use Rattle.text.specs.Signs.{pair_of}
use Rattle.calendar.specs.Ways.{and_then}
use Rattle.ditems.specs.declared.groups.Groups.{Groups}
use Rattle.ditems.specs.declared.groups.Group.{Group}
use Rattle.ditems.specs.declared.groups.Group.TheVariants.{Century, Year, Month, Day, Hour, Minute, Second}
use Rattle.ditems.specs.Groups.{groups, with_group, smaller, zeroed, set_from}
use Rattle.ditems.specs.Times.{time_item, some_groups}
use Rattle.ditems.specs.TimeLaws.{SameDate}
use Rattle.calendar.proofs.Ways.{then_some}
use Rattle.ditems.proofs.Somes.{when-some}

-- no group, or one of the clock
abbrev Late : Option Group → Type 0
Late None = Unit {0}
Late (Some Century) = ⊥
Late (Some Year) = ⊥
Late (Some Month) = ⊥
Late (Some Day) = ⊥
Late (Some Hour) = Unit {0}
Late (Some Minute) = Unit {0}
Late (Some Second) = Unit {0}

same : (g : Groups) → SameDate g g
same g = record { century = refl; year = refl; month = refl; day = refl }

same_then : (g h k : Groups) → SameDate g h → SameDate h k → SameDate g k
same_then g h k p q =
    record { century = p.century ∙ q.century; year = p.year ∙ q.year; month = p.month ∙ q.month; day = p.day ∙ q.day }

from_same : (g h k : Groups) → SameDate g h → h ≡ k → SameDate g k
from_same g h k p e = subst (SameDate g) e p

keep : (g : Groups) (h n s : ℕ) → SameDate g (groups g.century g.year g.month g.day h n s)
keep g h n s = record { century = refl; year = refl; month = refl; day = refl }

with_late : (g set : Groups) (group : Group) (n : ℕ) → Late (Some group) → with_group g group n ≡ Some set → SameDate g set
with_late g set Century n l e = absurd l
with_late g set Year n l e = absurd l
with_late g set Month n l e = absurd l
with_late g set Day n l e = absurd l
with_late g set Hour n l e = from_same g _ set (keep g n g.minute g.second) (when-some (leb n 24) _ set e).1
with_late g set Minute n l e = from_same g _ set (keep g g.hour n g.second) (when-some (leb n 59) _ set e).1
with_late g set Second n l e = from_same g _ set (keep g g.hour g.minute n) (when-some (leb n 59) _ set e).1

smaller_late : (group : Group) → Late (Some group) → Late (smaller group)
smaller_late Century l = absurd l
smaller_late Year l = absurd l
smaller_late Month l = absurd l
smaller_late Day l = absurd l
smaller_late Hour l = tt
smaller_late Minute l = tt
smaller_late Second l = tt

zeroed_late : (g : Groups) (next : Option Group) → Late next → SameDate g (zeroed g next)
zeroed_late g None l = same g
zeroed_late g (Some Century) l = absurd l
zeroed_late g (Some Year) l = absurd l
zeroed_late g (Some Month) l = absurd l
zeroed_late g (Some Day) l = absurd l
zeroed_late g (Some Hour) l = same g
zeroed_late g (Some Minute) l = keep g g.hour 0 0
zeroed_late g (Some Second) l = keep g g.hour g.minute 0

set_late : (next : Option Group) (g h : Groups) (xs : List ℕ) → Late next → set_from next g xs ≡ Some h → SameDate g h
set_late next g h [] l e = from_same g (zeroed g next) h (zeroed_late g next l) (same_Some (zeroed g next) h e)
set_late next g h (a ∷ []) l e = absurd (none-some h e)
set_late next g h (a ∷ b ∷ rest) l e =
    let p = then_some (pair_of a b) (λ n. and_then next (λ group. and_then (with_group g group n) (λ set. set_from (smaller group) set rest))) h e in
    let q = then_some next (λ group. and_then (with_group g group p.0) (λ set. set_from (smaller group) set rest)) h p.2 in
    let r = then_some (with_group g q.0 p.0) (λ set. set_from (smaller q.0) set rest) h q.2 in
    let late : Late (Some q.0) = subst Late q.1 l in
    same_then g r.0 h (with_late g r.0 q.0 p.0 late r.1) (set_late (smaller q.0) r.0 h rest (smaller_late q.0 late) r.2)

some_late : (first : Group) (g h : Groups) (xs : List ℕ) → Late (Some first) → some_groups g first xs ≡ Some h → SameDate g h
unfolding some_groups
some_late first g h [] l e = absurd (none-some h e)
some_late first g h (x ∷ xs) l e = set_late (Some first) g h (x ∷ xs) l e

pub same_date : (g h : Groups) (letter cur : ℕ) (digits : List ℕ) → (letter ≡ 72) ⊎ ((letter ≡ 78) ⊎ (letter ≡ 83))
    → time_item g letter cur digits ≡ Some h → SameDate g h
unfolding time_item
same_date g h letter cur digits w e =
    let at : (l : ℕ) → letter ≡ l → time_item g l cur digits ≡ Some h = λ l is. subst (λ (x : ℕ). time_item g x cur digits ≡ Some h) is e in
    elim w [
      | inl is ↦ some_late Hour g h digits tt (at 72 is)
      | inr v ↦ elim v [ inl is ↦ some_late Minute g h digits tt (at 78 is) | inr is ↦ some_late Second g h digits tt (at 83 is) ]
    ]

pub full_hour : (g : Groups) (cur a b n : ℕ) → pair_of a b ≡ Some n → n ≤ 24
    → time_item g 72 cur (a ∷ b ∷ []) ≡ Some (groups g.century g.year g.month g.day n 0 0)
unfolding time_item some_groups
full_hour g cur a b n e small =
    ap (λ (o : Option ℕ). and_then o (λ m. and_then (with_group g Hour m) (λ set. set_from (Some Minute) set []))) e
    ∙ ap (λ (t : Bool). and_then (cond t (Some (groups g.century g.year g.month g.day n g.minute g.second)) None) (λ set. set_from (Some Minute) set [])) (le-leb n 24 small)
