-- When the rows of an outcome are those that are told.
use Rattle.std.specs.Prelude.{Bool, false, List, Option, None, Some, String, Vec, string_bytes}
use Rattle.std.specs.Cmp.Lexicographic.{pointwise}
use Rattle.std.specs.Str.{bytes_eq}
use Rattle.std.specs.declared.alloc.Global.{Global}

-- as many, and each byte for byte the one at its place
abbrev pub same_rows : List (String Global) → List (String Global) → Bool
same_rows = pointwise (λ a b. bytes_eq (string_bytes a) (string_bytes b))

-- an outcome that is not told is never as it is told
abbrev pub is_as_told : Option (Vec (String Global) Global) → List (String Global) → Bool
is_as_told None came = false
is_as_told (Some told) came = same_rows came told.items
