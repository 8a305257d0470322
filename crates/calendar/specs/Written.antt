-- How a field writes a date.
use Rattle.std.specs.Prelude.{◌≡◌, ℕ, ◌+◌, ◌/◌, ◌%◌, List, [], ◌∷◌, ◌++◌, ◌⊎◌}
use Rattle.calendar.specs.declared.date.Date.{Date}
use Rattle.calendar.specs.Messages.{full_year}

-- a number below 100 in two digits, of which 0 is 48
abbrev pub pair : ℕ → List ℕ
pair n = (48 + n / 10) ∷ (48 + n % 10) ∷ []

abbrev pub mmdd : Date → List ℕ
mmdd d = pair d.month ++ pair d.day

abbrev pub yymmdd : Date → List ℕ
yymmdd d = pair (d.year % 100) ++ mmdd d

abbrev pub ccyymmdd : Date → List ℕ
ccyymmdd d = pair (d.year / 100) ++ yymmdd d

-- in one of the three forms, two digits of the year being of the century that they mean in the current year
abbrev pub Writes : ℕ → List ℕ → Date → Type 0
Writes current s d = (s ≡ mmdd d) ⊎ (((s ≡ yymmdd d) × (full_year current (d.year % 100) ≡ d.year)) ⊎ (s ≡ ccyymmdd d))
