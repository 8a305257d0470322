-- The listing line of an entry: eighty columns, the last of them a line feed.
use Rattle.std.specs.Prelude.{ℕ, ◌+◌, ◌/◌, ◌%◌, ◌<◌, Bool, List, [], ◌∷◌, ◌++◌, replicate, Some, None, Option}
use Rattle.std.specs.Option.{option_map}
use Rattle.calendar.specs.declared.date.Date.{Date}
use Rattle.record.specs.declared.series.Series.{Series}
use Rattle.record.specs.Entries.{Entry, mark_number, revision_number}
use Rattle.values.specs.Writing.{digits, written}

-- ccyymmdd
abbrev pub date_text : Date → List ℕ
date_text d = digits 4 d.year ++ (digits 2 d.month ++ digits 2 d.day)

-- a date that has such a text
abbrev pub Writable : Date → Type 0
Writable d = (d.year < 10000) × (d.month < 100) × (d.day < 100)

-- ccyymmddhhnnss, of a date and a second of the day
abbrev pub second_text : Date × ℕ → List ℕ
second_text t = date_text t.0 ++ (digits 2 (t.1 / 3600) ++ (digits 2 (t.1 / 60 % 60) ++ digits 2 (t.1 % 60)))

-- ccyymmddhhnn, of a date and a minute of the day
abbrev pub minute_text : Date × ℕ → List ℕ
minute_text t = date_text t.0 ++ (digits 2 (t.1 / 60) ++ digits 2 (t.1 % 60))

-- so many blanks where the field is absent
abbrev pub or_blank : ℕ → Option (List ℕ) → List ℕ
or_blank width None = replicate width 32
or_blank width (Some text) = text

-- the digit of the number
abbrev pub revision_sign : Bool → ℕ
revision_sign r = 48 + revision_number r

abbrev pub series_sign : Series → ℕ
series_sign s = 48 + mark_number s

-- the fields, of 8, 14, 12, 7, 4, 14, 1, 1, 1 and 8 columns
abbrev pub fields : Entry → List (List ℕ)
fields e =
    e.station ∷
    second_text e.observed ∷
    or_blank 12 (option_map minute_text e.created) ∷
    e.code ∷
    digits 4 e.duration ∷
    written e.value ∷
    (e.qualifier ∷ []) ∷
    (revision_sign e.revised ∷ []) ∷
    (series_sign e.series ∷ []) ∷
    or_blank 8 e.source ∷
    []

-- parted by blanks, and ended by a line feed
abbrev pub spaced : List (List ℕ) → List ℕ
spaced [] = 10 ∷ []
spaced (f ∷ []) = f ++ 10 ∷ []
spaced (f ∷ g ∷ fs) = f ++ 32 ∷ spaced (g ∷ fs)

unfoldable pub line : Entry → List ℕ
line e = spaced (fields e)
