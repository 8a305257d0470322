-- The physical elements: two letters, the fraction and the offset that turn an SI amount into the English one, and the element's own duration.
use Rattle.std.specs.Prelude.{◌≡◌, ℕ, Bool, true, ◌&&◌, List, [], ◌∷◌, Option, ◌==◌, refl}
use Rattle.std.specs.List.{find}
use Rattle.quantity.specs.Fractions.{fair}
use Rattle.quantity.specs.declared.element.Element.{Element}

-- letters, numerator, denominator, offset in ten-thousandths, duration letter, and that the fraction is fair
abbrev pub row : (a b n d o t : ℕ) → fair n d o ≡ true → Element
row a b n d o t h = record { first = a; second = b; numerator = n; denominator = d; offset = o; duration = t; ok = h }

unfoldable pub elements : List Element
elements =
    row 84 65 9 5 320000 73 refl ∷  -- TA
    row 84 68 9 5 320000 73 refl ∷  -- TD
    row 84 77 9 5 320000 73 refl ∷  -- TM
    row 84 80 9 5 320000 73 refl ∷  -- TP
    row 84 83 9 5 320000 73 refl ∷  -- TS
    row 80 80 5 127 0 68 refl ∷  -- PP
    row 80 67 5 127 0 73 refl ∷  -- PC
    row 83 87 5 127 0 73 refl ∷  -- SW
    row 83 68 50 127 0 73 refl ∷  -- SD
    row 83 70 50 127 0 68 refl ∷  -- SF
    row 71 68 50 127 0 73 refl ∷  -- GD
    row 73 84 50 127 0 73 refl ∷  -- IT
    row 72 71 1250 381 0 73 refl ∷  -- HG
    row 72 75 1250 381 0 73 refl ∷  -- HK
    row 72 76 1250 381 0 73 refl ∷  -- HL
    row 72 80 1250 381 0 73 refl ∷  -- HP
    row 72 84 1250 381 0 73 refl ∷  -- HT
    row 72 70 1250 381 0 73 refl ∷  -- HF
    row 72 90 1250 381 0 73 refl ∷  -- HZ
    row 81 82 1953125 55306341 0 73 refl ∷  -- QR
    row 81 73 1953125 55306341 0 73 refl ∷  -- QI
    row 81 84 1953125 55306341 0 73 refl ∷  -- QT
    row 81 68 1953125 55306341 0 73 refl ∷  -- QD
    row 81 83 1953125 55306341 0 73 refl ∷  -- QS
    row 85 76 15625 25146 0 68 refl ∷  -- UL
    row 85 67 15625 25146 0 73 refl ∷  -- UC
    row 88 86 15625 25146 0 73 refl ∷  -- XV
    row 88 82 1 1 0 73 refl ∷  -- XR
    row 85 68 1 1 0 73 refl ∷  -- UD
    row 83 65 1 1 0 73 refl ∷  -- SA
    row 82 80 1 1 0 68 refl ∷  -- RP
    row 82 73 1 1 0 68 refl ∷  -- RI
    []

-- an element's row in the table
abbrev pub row_of : Element → ℕ × ℕ × ℕ × ℕ × ℕ × ℕ
row_of e = (e.first, e.second, e.numerator, e.denominator, e.offset, e.duration)

-- whether a row has these letters
abbrev pub row_named : ℕ → ℕ → ℕ × ℕ × ℕ × ℕ × ℕ × ℕ → Bool
row_named a b r = r.0 == a && r.1 == b

abbrev pub is_named : ℕ → ℕ → Element → Bool
is_named a b e = e.first == a && e.second == b

abbrev pub lookup : ℕ → ℕ → List Element → Option Element
lookup a b = find (is_named a b)

-- the element of two letters
abbrev pub element_of : ℕ → ℕ → Option Element
element_of a b = lookup a b elements
