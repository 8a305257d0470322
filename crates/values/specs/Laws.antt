-- Laws of written values.
use Rattle.std.specs.Prelude.{◌≡◌, ℕ, ◌/◌, ◌%◌, ◌^◌, Bool, true, cond, List, [], ◌∷◌, ◌++◌, length, replicate, ℤ, pos, negsuc, unsigned_abs, Some, None, Ok, Err, Option, Result, codes, decimal}
use Rattle.text.specs.Signs.{capital}
use Rattle.quantity.specs.declared.element.Element.{Element}
use Rattle.quantity.specs.declared.units.Units.TheVariants.{English}
use Rattle.quantity.specs.Amounts.{is_absent, holdable}
use Rattle.values.specs.declared.reading.ValueFault.{ValueFault}
use Rattle.values.specs.declared.reading.ValueFault.TheVariants.{Malformed}
use Rattle.values.specs.Numbers.{amount_of}
use Rattle.values.specs.Parts.{number, Digits}
use Rattle.values.specs.Reading.{Stated, qualifier_of, number_of, value_said, qualified_by, is_missing, is_trace, knows_trace, read_for}
use Rattle.values.specs.Writing.{written, trim_start}

-- a value that a record can hold
abbrev pub Held : Option ℤ → Type 0
Held None = Unit {0}
Held (Some z) = holdable z ≡ true

-- what was written, with a qualifier behind it and without the blanks in front, reads back in English units
abbrev pub ReadsBack : Type 0
ReadsBack = (e : Element) (v : Option ℤ) (q : ℕ) → Held v → capital q ≡ true → read_for e English (trim_start (written v) ++ q ∷ []) ≡ Ok (v, q)

-- and without a qualifier
abbrev pub ReadsAlone : Type 0
ReadsAlone = (e : Element) (v : Option ℤ) → Held v → read_for e English (trim_start (written v)) ≡ Ok (v, 90)

-- an amount in English units, which no fraction converts
abbrev pub amount_english : ℕ → Option ℤ → Result Stated ValueFault
amount_english q None = Err Malformed
amount_english q (Some z) = qualified_by q (cond (is_absent z) (Ok None) (value_said z))

-- what a value says in English units, of an element that knows a trace or of one that does not, whatever its fraction
unfoldable pub read_english : Bool → List ℕ → Result Stated ValueFault
read_english known cs = cond (is_missing cs) (Ok (None, 90)) (cond (is_trace cs) (cond known (Ok (Some (pos 10), 90)) (Err Malformed)) (amount_english (qualifier_of cs) (amount_of (number_of cs))))

-- nothing else of an element counts in English units
abbrev pub ReadsEnglish : Type 0
ReadsEnglish = (e : Element) (text : List ℕ) → read_for e English text ≡ read_english (knows_trace e.first e.second) text

-- so what was written reads back under any fraction, be it one that no element has: its denominator may be 0
abbrev pub ReadsBackAny : Type 0
ReadsBackAny = (known : Bool) (v : Option ℤ) (q : ℕ) → Held v → capital q ≡ true → read_english known (trim_start (written v) ++ q ∷ []) ≡ Ok (v, q)

-- and without a qualifier
abbrev pub ReadsAloneAny : Type 0
ReadsAloneAny = (known : Bool) (v : Option ℤ) → Held v → read_english known (trim_start (written v)) ≡ Ok (v, 90)

-- two values are written alike only where they are the same
abbrev pub Apart : Type 0
Apart = (v w : Option ℤ) → Held v → Held w → written v ≡ written w → v ≡ w

-- every value takes fourteen columns
abbrev pub Wide : Type 0
Wide = (v : Option ℤ) → length (written v) ≡ 14

-- a minus, where the amount is below zero
abbrev pub minus_below : ℤ → List ℕ
minus_below (pos n) = []
minus_below (negsuc n) = 45 ∷ []

-- the columns show the amount: blanks, a minus where it is below zero, its whole part without needless zeros, a point and four decimals
pub record Shows (columns : List ℕ) (z : ℤ) : Type 0 where
  pub blanks : ℕ
  pub decimals : List ℕ
  pub parts : columns ≡ replicate blanks 32 ++ (minus_below z ++ (decimal (unsigned_abs z / 10 ^ 4) ++ 46 ∷ decimals))
  pub four : (length decimals ≡ 4) × Digits 4 decimals
  pub says : number decimals ≡ unsigned_abs z % 10 ^ 4

-- an amount that a record can hold is written so
abbrev pub ShowsAmounts : Type 0
ShowsAmounts = (z : ℤ) → holdable z ≡ true → Shows (written (Some z)) z

-- and a missing value as -9999
abbrev pub ShowsMissing : Type 0
ShowsMissing = written None ≡ codes "    -9999.0000"
