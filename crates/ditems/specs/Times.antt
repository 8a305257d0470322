-- The D items that set the time.
use Rattle.std.specs.Prelude.{ℕ, cond, List, [], ◌∷◌, Some, None, Option, ◌==◌}
use Rattle.text.specs.Signs.{pair_of}
use Rattle.calendar.specs.Messages.{full_year}
use Rattle.ditems.specs.declared.groups.Groups.{Groups}
use Rattle.ditems.specs.declared.groups.Group.{Group}
use Rattle.ditems.specs.declared.groups.Group.TheVariants.{Century, Year, Month, Day, Hour, Minute, Second}
use Rattle.calendar.specs.Ways.{and_then}
use Rattle.ditems.specs.Groups.{set_from, in_year}

-- the group at which an item begins: T century, Y year, M month, D day, H hour, N minute and S second
abbrev pub group_of : ℕ → Option Group
group_of b =
    cond (b == 84) (Some Century) (cond (b == 89) (Some Year) (cond (b == 77) (Some Month) (cond (b == 68) (Some Day)
    (cond (b == 72) (Some Hour) (cond (b == 78) (Some Minute) (cond (b == 83) (Some Second) None))))))

-- one group or more
unfoldable pub some_groups : Groups → Group → List ℕ → Option Groups
some_groups g first [] = None
some_groups g first (a ∷ rest) = set_from (Some first) g (a ∷ rest)

-- two digits of a year, of the century nearest to the current year, and perhaps groups from the month on
unfoldable pub year_item : Groups → ℕ → List ℕ → Option Groups
year_item g current [] = None
year_item g current (a ∷ []) = None
year_item g current (a ∷ b ∷ rest) = and_then (pair_of a b) (λ n. set_from (Some Month) (in_year g (full_year current n)) rest)

abbrev pub groups_item : Groups → ℕ → List ℕ → Group → Option Groups
groups_item g current digits Century = some_groups g Century digits
groups_item g current digits Year = year_item g current digits
groups_item g current digits Month = some_groups g Month digits
groups_item g current digits Day = some_groups g Day digits
groups_item g current digits Hour = some_groups g Hour digits
groups_item g current digits Minute = some_groups g Minute digits
groups_item g current digits Second = some_groups g Second digits

-- a time item by its letter and its digits
unfoldable pub time_item : Groups → ℕ → ℕ → List ℕ → Option Groups
time_item g letter current digits = and_then (group_of letter) (groups_item g current digits)
