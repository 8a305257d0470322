-- What is said behind a case.
use Rattle.std.specs.Prelude.{ℕ, Bool, List, [], codes, cond}

-- nothing where both decoders gave what is told
abbrev pub verdict_of : Bool → Bool → List ℕ
verdict_of alike as_told = cond as_told (cond alike [] (codes ", THE DECODERS DIFFER")) (codes ", NOT AS TOLD")
