-- Entries shown in bytes, one line after the other.
use Rattle.std.specs.Prelude.{◌≡◌, ℕ, ◌*◌, List, length, take}
use Rattle.std.specs.List.{flat_map, AllByRecursion}
use Rattle.record.specs.Entries.{Entry}
use Rattle.record.specs.Validity.{Valid}
use Rattle.line.specs.Lines.{line}

-- the first bytes are the lines of so many valid entries
pub record Shown (bytes : List ℕ) (count : ℕ) : Type 0 where
  pub entries : List Entry
  pub valid : AllByRecursion Valid entries
  pub many : length entries ≡ count
  pub text : take (80 * count) bytes ≡ flat_map line entries
