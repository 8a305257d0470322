-- Whether an item is good does not depend on the terms it meets.
use Rattle.std.proofs.Common.{◌≡◌, ℕ, Bool, true, false, cond, eqb, leb, List, [], ◌∷◌, is_some, Some, None, Option, refl}
use Rattle.std.specs.Option.{option_map}
use Rattle.text.specs.Signs.{pair_of}
use Rattle.calendar.specs.declared.date.Date.{Date}
use Rattle.calendar.specs.Messages.{full_year}
use Rattle.calendar.specs.Ways.{and_then}
use Rattle.instants.specs.declared.moves.Move.{Move}
use Rattle.daylight.specs.declared.zone.Zone.{Zone}
use Rattle.ditems.specs.declared.groups.Groups.{Groups}
use Rattle.ditems.specs.declared.groups.Group.{Group}
use Rattle.ditems.specs.declared.groups.Group.TheVariants.{Century, Year, Month, Day, Hour, Minute, Second}
use Rattle.ditems.specs.Groups.{when, within, smaller, with_group, in_year, set_from}
use Rattle.ditems.specs.Moves.{move_of}
use Rattle.ditems.specs.Times.{group_of, some_groups, year_item, groups_item, time_item}
use Rattle.terms.specs.declared.stage.Stage.TheVariants.{Free}
use Rattle.terms.specs.Created.{created_of}
use Rattle.terms.specs.Items.{kind_item, after_item}
use Rattle.terms.specs.Settings.{at_groups, made_at, in_units, lasting, moved_by, units_of, created_item, units_item, variable_read, variable_item, relative_item, interval_item, clock_item}
use Rattle.terms.specs.Standing.{Standing}

-- both are there, or neither
abbrev Alike : {X Y : Type 0} → Option X → Option Y → Type 0
Alike o p = is_some o ≡ is_some p

mapped_alike : {X Y Z : Type 0} (f : X → Y) (g : X → Z) (o : Option X) → Alike (option_map f o) (option_map g o)
mapped_alike f g None = refl
mapped_alike f g (Some x) = refl

both_mapped : {X Y Z : Type 0} (f : X → Y) (g : X → Z) (o p : Option X) → Alike o p → Alike (option_map f o) (option_map g p)
both_mapped f g None None e = refl
both_mapped f g None (Some y) e = e
both_mapped f g (Some x) None e = e
both_mapped f g (Some x) (Some y) e = refl

then_alike : {X Y : Type 0} (o : Option X) (f g : X → Option Y) → ((x : X) → Alike (f x) (g x)) → Alike (and_then o f) (and_then o g)
then_alike None f g h = refl
then_alike (Some x) f g h = h x

cond_alike : {X : Type 0} (b : Bool) (o p q r : Option X) → Alike o p → Alike q r → Alike (cond b o q) (cond b p r)
cond_alike true o p q r h k = h
cond_alike false o p q r h k = k

-- the numbers of an item suit their groups whatever groups stand
module _ (F : Groups → Option Groups) (same : (g h : Groups) → Alike (F g) (F h)) where
  when_alike : (b : Bool) (g h : Groups) → Alike (and_then (when b g) F) (and_then (when b h) F)
  when_alike true g h = same g h
  when_alike false g h = refl

  with_alike : (group : Group) (n : ℕ) (g h : Groups) → Alike (and_then (with_group g group n) F) (and_then (with_group h group n) F)
  with_alike Century n g h = same _ _
  with_alike Year n g h = same _ _
  with_alike Month n g h = when_alike (within 1 n 12) _ _
  with_alike Day n g h = when_alike (within 1 n 31) _ _
  with_alike Hour n g h = when_alike (leb n 24) _ _
  with_alike Minute n g h = when_alike (leb n 59) _ _
  with_alike Second n g h = when_alike (leb n 59) _ _

set_alike : (digits : List ℕ) (next : Option Group) (g h : Groups) → Alike (set_from next g digits) (set_from next h digits)
set_alike [] next g h = refl
set_alike (a ∷ []) next g h = refl
set_alike (a ∷ b ∷ rest) next g h =
    then_alike (pair_of a b) _ _ (λ n. then_alike next _ _ (λ group. with_alike (λ x. set_from (smaller group) x rest) (λ x y. set_alike rest (smaller group) x y) group n g h))

some_alike : (g h : Groups) (first : Group) (digits : List ℕ) → Alike (some_groups g first digits) (some_groups h first digits)
unfolding some_groups
some_alike g h first [] = refl
some_alike g h first (a ∷ rest) = set_alike (a ∷ rest) (Some first) g h

year_alike : (g h : Groups) (cur : ℕ) (digits : List ℕ) → Alike (year_item g cur digits) (year_item h cur digits)
unfolding year_item
year_alike g h cur [] = refl
year_alike g h cur (a ∷ []) = refl
year_alike g h cur (a ∷ b ∷ rest) = then_alike (pair_of a b) _ _ (λ n. set_alike rest (Some Month) (in_year g (full_year cur n)) (in_year h (full_year cur n)))

groups_alike : (g h : Groups) (cur : ℕ) (digits : List ℕ) (group : Group) → Alike (groups_item g cur digits group) (groups_item h cur digits group)
groups_alike g h cur digits Century = some_alike g h Century digits
groups_alike g h cur digits Year = year_alike g h cur digits
groups_alike g h cur digits Month = some_alike g h Month digits
groups_alike g h cur digits Day = some_alike g h Day digits
groups_alike g h cur digits Hour = some_alike g h Hour digits
groups_alike g h cur digits Minute = some_alike g h Minute digits
groups_alike g h cur digits Second = some_alike g h Second digits

time_alike : (g h : Groups) (letter cur : ℕ) (digits : List ℕ) → Alike (time_item g letter cur digits) (time_item h letter cur digits)
unfolding time_item
time_alike g h letter cur digits = then_alike (group_of letter) (groups_item g cur digits) (groups_item h cur digits) (groups_alike g h cur digits)

module _ (s t : Standing) where
  created_alike : (today : Date) (daylight : Date × ℕ → Bool) (zone : Zone) (rest : List ℕ) → Alike (created_item today daylight zone rest s) (created_item today daylight zone rest t)
  unfolding created_item
  created_alike today daylight zone rest = mapped_alike (λ (c : Date × ℕ). made_at s (Some c)) (λ (c : Date × ℕ). made_at t (Some c)) (created_of today daylight zone rest)

  units_alike : (rest : List ℕ) → Alike (units_item rest s) (units_item rest t)
  unfolding units_item
  units_alike rest = mapped_alike (in_units s) (in_units t) (units_of rest)

  variable_alike : (rest : List ℕ) → Alike (variable_item rest s) (variable_item rest t)
  unfolding variable_item
  variable_alike [] = refl
  variable_alike (u ∷ []) = cond_alike (eqb u 90) (Some (lasting s None)) (Some (lasting t None)) None None refl refl
  variable_alike (u ∷ a ∷ []) = refl
  variable_alike (u ∷ a ∷ b ∷ []) = mapped_alike (λ (n : ℕ). lasting s (Some n)) (λ (n : ℕ). lasting t (Some n)) (variable_read u a b)
  variable_alike (u ∷ a ∷ b ∷ c ∷ rest) = refl

  relative_alike : (rest : List ℕ) → Alike (relative_item Free rest s) (relative_item Free rest t)
  unfolding relative_item
  relative_alike rest = mapped_alike (λ (m : Move). moved_by s (Some m)) (λ (m : Move). moved_by t (Some m)) (move_of rest)

  interval_alike : (rest : List ℕ) → Alike (interval_item Free rest s) (interval_item Free rest t)
  unfolding interval_item
  interval_alike rest = refl

  clock_alike : (cur letter : ℕ) (rest : List ℕ) → Alike (clock_item cur Free letter rest s) (clock_item cur Free letter rest t)
  unfolding clock_item
  clock_alike cur letter rest =
      both_mapped (at_groups s) (at_groups t) (time_item s.groups letter cur rest) (time_item t.groups letter cur rest) (time_alike s.groups t.groups letter cur rest)

  kind_alike : (today : Date) (daylight : Date × ℕ → Bool) (zone : Zone) (letter : ℕ) (rest : List ℕ)
      → Alike (kind_item today daylight zone Free letter rest s) (kind_item today daylight zone Free letter rest t)
  unfolding kind_item
  kind_alike today daylight zone letter rest =
      cond_alike (eqb letter 67) _ _ _ _ (created_alike today daylight zone rest)
      (cond_alike (eqb letter 85) _ _ _ _ (units_alike rest)
      (cond_alike (eqb letter 86) _ _ _ _ (variable_alike rest)
      (cond_alike (eqb letter 82) _ _ _ _ (relative_alike rest)
      (cond_alike (eqb letter 73) _ _ _ _ (interval_alike rest)
      (clock_alike today.year letter rest)))))

pub item_alike : (today : Date) (daylight : Date × ℕ → Bool) (zone : Zone) (item : List ℕ) (s t : Standing)
    → is_some (after_item today daylight zone Free item s) ≡ is_some (after_item today daylight zone Free item t)
unfolding after_item
item_alike today daylight zone [] s t = refl
item_alike today daylight zone (d ∷ []) s t = refl
item_alike today daylight zone (d ∷ letter ∷ rest) s t =
    cond_alike (eqb d 68) (kind_item today daylight zone Free letter rest s) (kind_item today daylight zone Free letter rest t) None None (kind_alike s t today daylight zone letter rest) refl
