-- Laws of listing lines.
use Rattle.std.specs.Prelude.{◌≡◌, ℕ, List, length}
use Rattle.record.specs.declared.record.Record.{Record}
use Rattle.record.specs.Entries.{Entry, entry}
use Rattle.record.specs.Validity.{Valid}
use Rattle.line.specs.Lines.{line}
use Rattle.line.specs.Shown.{Shown}

-- valid entries with one line are one entry
abbrev pub TellsApart : Type 0
TellsApart = (d e : Entry) → Valid d → Valid e → line d ≡ line e → d ≡ e

-- and so are two records with one line
abbrev pub TellsRecordsApart : Type 0
TellsRecordsApart = (r s : Record) → line (entry r) ≡ line (entry s) → r ≡ s

-- every line has eighty bytes
abbrev pub Eighty : Type 0
Eighty = (e : Entry) → Valid e → length (line e) ≡ 80

-- bytes show so many entries in one way only
abbrev pub OneReading : Type 0
OneReading = (bytes : List ℕ) (count : ℕ) (s t : Shown bytes count) → s.entries ≡ t.entries
