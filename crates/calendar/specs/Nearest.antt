-- What the completion of dates chooses.
use Rattle.std.specs.Prelude.{◌≡◌, ℕ, ◌+◌, ◌%◌, ◌≤◌, true, ◌⊎◌, List, Some, None, Option}
use Rattle.calendar.specs.declared.date.Date.{Date}
use Rattle.calendar.specs.Dates.{number, message_day}
use Rattle.calendar.specs.Messages.{apart, full_year, nearest_date, message_date}
use Rattle.calendar.specs.Written.{yymmdd, ccyymmdd, Writes}

-- a real day of 1900 to 2099 with the wanted month and day, of the years before, at and after the current one
pub record Candidate (cur : Date) (m d : ℕ) (e : Date) : Type 0 where
  pub wanted_month : e.month ≡ m
  pub wanted_day : e.day ≡ d
  pub in_range : message_day e ≡ true
  pub near_year : (e.year + 1 ≡ cur.year) ⊎ ((e.year ≡ cur.year) ⊎ (e.year ≡ cur.year + 1))

-- e is no further from the place n than f, and where they are equally far it is not the later
abbrev pub Preferred : ℕ → ℕ → ℕ → Type 0
Preferred n e f = (apart n e ≤ apart n f) × (apart n e ≡ apart n f → e ≤ f)

abbrev pub Nearest : Date → ℕ → ℕ → Option Date → Type 0
Nearest cur m d None = (e : Date) → Candidate cur m d e → ⊥
Nearest cur m d (Some e) = Candidate cur m d e × ((f : Date) → Candidate cur m d f → Preferred (number cur) (number e) (number f))

pub record MessageDates : Type 0 where
  pub nearest : (cur : Date) (m d : ℕ) → Nearest cur m d (nearest_date cur m d)
  -- the century is 19 or 20, and the other one is not preferred
  pub century : (cur two : ℕ) → (full_year cur two ≡ 1900 + two) ⊎ (full_year cur two ≡ 2000 + two)
  pub nearest_century : (cur two : ℕ) → Preferred cur (full_year cur two) (1900 + two) × Preferred cur (full_year cur two) (2000 + two)
  pub in_range : (s : List ℕ) (cur d : Date) → message_date s cur ≡ Some d → message_day d ≡ true
  -- the field writes the date that it gives
  pub written : (s : List ℕ) (cur d : Date) → message_date s cur ≡ Some d → Writes cur.year s d
  -- a day of 1900 to 2099 is given by its eight digits, and by its last six where the year's two mean its year
  pub whole_back : (cur d : Date) → message_day d ≡ true → message_date (ccyymmdd d) cur ≡ Some d
  pub short_back : (cur d : Date) → message_day d ≡ true → full_year cur.year (d.year % 100) ≡ d.year → message_date (yymmdd d) cur ≡ Some d
