-- Time groups: century, year, month, day, hour, minute and second, each of two digits.
use Rattle.std.specs.Prelude.{ℕ, ◌/◌, ◌%◌, Bool, cond, ◌&&◌, List, [], ◌∷◌, Some, None, Option, nat_le}
use Rattle.text.specs.Signs.{pair_of}
use Rattle.calendar.specs.declared.date.Date.{Date}
use Rattle.calendar.specs.Ways.{and_then}
use Rattle.ditems.specs.declared.groups.Groups.{Groups}
use Rattle.ditems.specs.declared.groups.Group.{Group}
use Rattle.ditems.specs.declared.groups.Group.TheVariants.{Century, Year, Month, Day, Hour, Minute, Second}

abbrev pub when : {A : Type 0} → Bool → A → Option A
when test x = cond test (Some x) None

abbrev pub within : ℕ → ℕ → ℕ → Bool
within low n high = nat_le low n && nat_le n high

-- the group that may follow
abbrev pub smaller : Group → Option Group
smaller Century = Some Year
smaller Year = Some Month
smaller Month = Some Day
smaller Day = Some Hour
smaller Hour = Some Minute
smaller Minute = Some Second
smaller Second = None

abbrev pub groups : ℕ → ℕ → ℕ → ℕ → ℕ → ℕ → ℕ → Groups
groups c y m d h n s = record { century = c; year = y; month = m; day = d; hour = h; minute = n; second = s }

-- a full hour on a date
abbrev pub groups_at : Date → ℕ → Groups
groups_at d h = groups (d.year / 100) (d.year % 100) d.month d.day h 0 0

-- one group set, where the number suits it: months 1 to 12, days 1 to 31, hours to 24, minutes and seconds to 59
abbrev pub with_group : Groups → Group → ℕ → Option Groups
with_group g Century n = Some (groups n g.year g.month g.day g.hour g.minute g.second)
with_group g Year n = Some (groups g.century n g.month g.day g.hour g.minute g.second)
with_group g Month n = when (within 1 n 12) (groups g.century g.year n g.day g.hour g.minute g.second)
with_group g Day n = when (within 1 n 31) (groups g.century g.year g.month n g.hour g.minute g.second)
with_group g Hour n = when (nat_le n 24) (groups g.century g.year g.month g.day n g.minute g.second)
with_group g Minute n = when (nat_le n 59) (groups g.century g.year g.month g.day g.hour n g.second)
with_group g Second n = when (nat_le n 59) (groups g.century g.year g.month g.day g.hour g.minute n)

-- groups not given stay, but after a last group of hour or minute the smaller ones become 0
abbrev pub zeroed : Groups → Option Group → Groups
zeroed g None = g
zeroed g (Some Century) = g
zeroed g (Some Year) = g
zeroed g (Some Month) = g
zeroed g (Some Day) = g
zeroed g (Some Hour) = g
zeroed g (Some Minute) = groups g.century g.year g.month g.day g.hour 0 0
zeroed g (Some Second) = groups g.century g.year g.month g.day g.hour g.minute 0

-- the groups in another year
abbrev pub in_year : Groups → ℕ → Groups
in_year g y = groups (y / 100) (y % 100) g.month g.day g.hour g.minute g.second

-- two-digit groups set one after the other, `next` being the one that comes next
abbrev pub set_from : Option Group → Groups → List ℕ → Option Groups
set_from next g [] = Some (zeroed g next)
set_from next g (a ∷ []) = None
set_from next g (a ∷ b ∷ rest) = and_then (pair_of a b) (λ n. and_then next (λ group. and_then (with_group g group n) (λ set. set_from (smaller group) set rest)))
