-- What a value in a message may be, and what it says. It does not say how it is read.
use Rattle.std.specs.Prelude.{◌≡◌, ℕ, true, List, [], ◌∷◌, ◌++◌, Contains, ℤ, pos, Some, None, Ok, Err, Result, codes, slice_index}
use Rattle.text.specs.Signs.{capital}
use Rattle.quantity.specs.declared.element.Element.{Element}
use Rattle.quantity.specs.declared.units.Units.{Units}
use Rattle.quantity.specs.Elements.{element_of}
use Rattle.values.specs.declared.reading.ValueFault.{ValueFault}
use Rattle.values.specs.declared.reading.ValueFault.TheVariants.{Malformed}
use Rattle.values.specs.Parts.{Writes}
use Rattle.values.specs.Reading.{Stated, qualified_by, value_in, read_value}

-- the letters of the elements that know a trace
abbrev pub traced : List (List ℕ)
traced = codes "PP" ∷ codes "PC" ∷ codes "SW" ∷ codes "SD" ∷ codes "SF" ∷ []

-- what a text says as a value of the element, with the letter of its qualifier
pub data Says (e : Element) (u : Units) : List ℕ → Result Stated ValueFault → Type 0 where
  -- M and MM, alone, are missing
  missing : Says e u (codes "M") (Ok (None, 90))
  missing_too : Says e u (codes "MM") (Ok (None, 90))
  -- T, alone, is 0.0010 in either unit
  trace : Contains traced (e.first ∷ e.second ∷ []) → Says e u (codes "T") (Ok (Some (pos 10), 90))
  -- an amount alone has the qualifier Z
  alone : {text : List ℕ} {z : ℤ} → Writes text z → Says e u text (qualified_by 90 (value_in e u z))
  -- else it is the capital behind the amount
  qualified : {text : List ℕ} {z : ℤ} (q : ℕ) → Writes text z → capital q ≡ true → Says e u (text ++ q ∷ []) (qualified_by q (value_in e u z))

-- a value of a code with the element is read as what it says, and one that says nothing is malformed
pub record ReadAsSaid (code : List ℕ) (e : Element) (u : Units) (text : List ℕ) : Type 0 where
  pub said : (r : Result Stated ValueFault) → Says e u text r → read_value code u text ≡ r
  pub unsaid : ((r : Result Stated ValueFault) → Says e u text r → ⊥) → read_value code u text ≡ Err Malformed

abbrev pub ReadsWhatIsSaid : Type 0
ReadsWhatIsSaid = (code : List ℕ) (e : Element) (u : Units) (text : List ℕ) → element_of (slice_index code 0) (slice_index code 1) ≡ Some e → ReadAsSaid code e u text
