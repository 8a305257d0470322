-- Laws of time items and readings.
use Rattle.std.specs.Prelude.{◌≡◌, ℕ, ◌≤◌, true, ◌⊎◌, List, [], ◌∷◌, Some}
use Rattle.text.specs.Signs.{pair_of}
use Rattle.calendar.specs.declared.date.Date.{Date}
use Rattle.calendar.specs.Dates.{message_day}
use Rattle.ditems.specs.declared.groups.Groups.{Groups}
use Rattle.ditems.specs.Groups.{groups}
use Rattle.ditems.specs.Times.{time_item}
use Rattle.ditems.specs.Readings.{reading_of}

pub record SameDate (g h : Groups) : Type 0 where
  pub century : g.century ≡ h.century
  pub year : g.year ≡ h.year
  pub month : g.month ≡ h.month
  pub day : g.day ≡ h.day

pub record TimeLaws : Type 0 where
  -- DH (72) with an hour alone keeps the date and sets minute and second to 0
  pub full_hour : (g : Groups) (cur a b n : ℕ) → pair_of a b ≡ Some n → n ≤ 24
      → time_item g 72 cur (a ∷ b ∷ []) ≡ Some (groups g.century g.year g.month g.day n 0 0)
  -- DH, DN (78) and DS (83) leave the date alone
  pub same_date : (g h : Groups) (letter cur : ℕ) (digits : List ℕ) → (letter ≡ 72) ⊎ ((letter ≡ 78) ⊎ (letter ≡ 83))
      → time_item g letter cur digits ≡ Some h → SameDate g h
  -- a reading is on a real day of 1900 to 2099, and its second lies in the day
  pub reading_day : (g : Groups) (r : Date × ℕ) → reading_of g ≡ Some r → message_day r.0 ≡ true
  pub reading_second : (g : Groups) (r : Date × ℕ) → reading_of g ≡ Some r → r.1 ≤ 86400
  -- hour 24 is the end of the day
  pub hour_24 : (g : Groups) (r : Date × ℕ) → reading_of g ≡ Some r → g.hour ≡ 24 → r.1 ≡ 86400
