-- What a decode is told by a current date and the daylight law.
use Rattle.std.specs.Prelude.{ℕ}
use Rattle.daylight.specs.Sundays.{law_daylight}
use Rattle.daylight.specs.Settings.{Setting, setting}

abbrev pub lawful : ℕ → ℕ → ℕ → Setting
lawful y m d = setting (record { year = y; month = m; day = d }) (λ r. law_daylight r)
