-- Bytes over what stands at a place.
use Rattle.std.specs.Prelude.{ℕ, ◌+◌, List, ◌++◌, length, take, drop}

abbrev pub placed : List ℕ → ℕ → List ℕ → List ℕ
placed d at xs = take at d ++ (xs ++ drop (at + length xs) d)
