-- What time items do, group by group.
use Rattle.std.specs.Prelude.{◌≡◌, ℕ, ◌+◌, ◌*◌, ◌≤◌, List, [], ◌∷◌, Some, None, ◌↔◌, Contains, codes}
use Rattle.calendar.specs.Messages.{full_year}
use Rattle.calendar.specs.Ways.{and_then}
use Rattle.ditems.specs.declared.groups.Groups.{Groups}
use Rattle.ditems.specs.Groups.{groups}
use Rattle.ditems.specs.MoveLaws.{Figures}
use Rattle.ditems.specs.Times.{time_item}

-- the item of one group with the number n, by its letter, makes these of the groups g
pub data Makes (g : Groups) (current n : ℕ) : ℕ → Groups → Type 0 where
  -- DT (84)
  century : Makes g current n 84 (groups n g.year g.month g.day g.hour g.minute g.second)
  -- DY (89), which sets the century of its year too
  year : (c : ℕ) → full_year current n ≡ c * 100 + n → Makes g current n 89 (groups c n g.month g.day g.hour g.minute g.second)
  -- DM (77)
  month : 1 ≤ n → n ≤ 12 → Makes g current n 77 (groups g.century g.year n g.day g.hour g.minute g.second)
  -- DD (68)
  day : 1 ≤ n → n ≤ 31 → Makes g current n 68 (groups g.century g.year g.month n g.hour g.minute g.second)
  -- DH (72), which leaves no minute and no second
  hour : n ≤ 24 → Makes g current n 72 (groups g.century g.year g.month g.day n 0 0)
  -- DN (78), which leaves no second
  minute : n ≤ 59 → Makes g current n 78 (groups g.century g.year g.month g.day g.hour n 0)
  -- DS (83)
  second : n ≤ 59 → Makes g current n 83 (groups g.century g.year g.month g.day g.hour g.minute n)

-- two digits write a number, and the item with this number makes h of g
pub record OneGroup (g : Groups) (letter current a b : ℕ) (h : Groups) : Type 0 where
  pub number : ℕ
  pub digits : Figures (a ∷ b ∷ []) number
  pub makes : Makes g current number letter h

-- the letters of a group and of the next one: behind DY comes DM, then DD, DH, DN and DS
pub data Next : ℕ → ℕ → Type 0 where
  months : Next 89 77
  days : Next 77 68
  hours : Next 68 72
  minutes : Next 72 78
  seconds : Next 78 83

-- two pairs of digits write a century and its year, and h is g in that year
pub record FullYear (g : Groups) (a b c d : ℕ) (h : Groups) : Type 0 where
  pub century : ℕ
  pub year : ℕ
  pub front : Figures (a ∷ b ∷ []) century
  pub back : Figures (c ∷ d ∷ []) year
  pub set : groups century year g.month g.day g.hour g.minute g.second ≡ h

pub record GroupLaws : Type 0 where
  -- two signs are the digits of an item exactly where they are one group for its letter, and do what that one does
  pub one_group : (g h : Groups) (letter current a b : ℕ) → (time_item g letter current (a ∷ b ∷ []) ≡ Some h) ↔ OneGroup g letter current a b h
  -- fewer are none
  pub no_group : (g : Groups) (letter current : ℕ) → time_item g letter current [] ≡ None
  pub half_group : (g : Groups) (letter current a : ℕ) → time_item g letter current (a ∷ []) ≡ None
  -- no other letter begins an item
  pub letters : (g h : Groups) (letter current : ℕ) (digits : List ℕ) → time_item g letter current digits ≡ Some h → Contains (codes "TYMDHNS") letter
  -- more groups do what the first does alone, and then the item of the next letter
  pub next_group : (g : Groups) (letter next current a b c : ℕ) (rest : List ℕ) → Next letter next
      → time_item g letter current (a ∷ b ∷ c ∷ rest) ≡ and_then (time_item g letter current (a ∷ b ∷ [])) (λ s. time_item s next current (c ∷ rest))
  -- behind the second there is no group
  pub past_second : (g : Groups) (current a b c : ℕ) (rest : List ℕ) → time_item g 83 current (a ∷ b ∷ c ∷ rest) ≡ None
  -- behind the century of DT comes its year, and then what DM does
  pub full_year_of : (g h : Groups) (current a b c d : ℕ) → (time_item g 84 current (a ∷ b ∷ c ∷ d ∷ []) ≡ Some h) ↔ FullYear g a b c d h
  pub half_year : (g : Groups) (current a b c : ℕ) → time_item g 84 current (a ∷ b ∷ c ∷ []) ≡ None
  pub past_year : (g : Groups) (current a b c d e : ℕ) (rest : List ℕ)
      → time_item g 84 current (a ∷ b ∷ c ∷ d ∷ e ∷ rest) ≡ and_then (time_item g 84 current (a ∷ b ∷ c ∷ d ∷ [])) (λ s. time_item s 77 current (e ∷ rest))
  -- DH with hour and minute leaves the date and no second
  pub hour_minute : (g : Groups) (current a b c d n k : ℕ) → Figures (a ∷ b ∷ []) n → Figures (c ∷ d ∷ []) k → n ≤ 24 → k ≤ 59
      → time_item g 72 current (a ∷ b ∷ c ∷ d ∷ []) ≡ Some (groups g.century g.year g.month g.day n k 0)
