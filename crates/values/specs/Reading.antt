-- How a value is read: M and MM are missing, T is a trace, and any other is an amount and perhaps a capital that qualifies it.
use Rattle.std.specs.Prelude.{ℕ, ◌-◌, Bool, cond, ◌&&◌, ◌||◌, List, [], ◌∷◌, length, take, ℤ, pos, Some, None, Ok, Err, Option, Result, ◌==◌, slice_index}
use Rattle.std.specs.Str.{bytes_eq}
use Rattle.text.specs.Signs.{capital}
use Rattle.quantity.specs.declared.value.Value.{Value}
use Rattle.quantity.specs.declared.element.Element.{Element}
use Rattle.quantity.specs.declared.units.Units.{Units}
use Rattle.quantity.specs.declared.units.Units.TheVariants.{English, Si}
use Rattle.quantity.specs.Elements.{element_of}
use Rattle.quantity.specs.Amounts.{is_absent, holdable}
use Rattle.quantity.specs.Values.{value_of}
use Rattle.values.specs.declared.reading.Quantity.{Quantity}
use Rattle.values.specs.declared.reading.ValueFault.{ValueFault}
use Rattle.values.specs.declared.reading.ValueFault.TheVariants.{Malformed, TooLarge}
use Rattle.values.specs.Conversion.{converted}
use Rattle.values.specs.Numbers.{amount_of}

-- a reading: the amount or none, and the qualifier's letter
abbrev pub Stated : Type 0
Stated = Option ℤ × ℕ

abbrev pub stated : Quantity → Stated
stated q = (value_of q.value, q.qualifier.letter)

abbrev pub outcome : Result Quantity ValueFault → Result Stated ValueFault
outcome (Ok q) = Ok (stated q)
outcome (Err f) = Err f

abbrev pub valued : Result Value ValueFault → Result (Option ℤ) ValueFault
valued (Ok v) = Ok (value_of v)
valued (Err f) = Err f

abbrev pub last_of : List ℕ → ℕ
last_of cs = slice_index cs (length cs - 1)

-- a last capital is the qualifier, else it is Z
abbrev pub qualifier_of : List ℕ → ℕ
qualifier_of cs = cond (capital (last_of cs)) (last_of cs) 90

-- what stands before the qualifier
abbrev pub number_of : List ℕ → List ℕ
number_of cs = cond (capital (last_of cs)) (take (length cs - 1) cs) cs

abbrev pub in_english : Element → Units → ℤ → ℤ
in_english e English z = z
in_english e Si z = converted e z

-- the value that an English amount says: -9999 is missing, and from 10^12 ten-thousandths on it is too large
abbrev pub value_said : ℤ → Result (Option ℤ) ValueFault
value_said z = cond (is_absent z) (Ok None) (cond (holdable z) (Ok (Some z)) (Err TooLarge))

-- -9999 is missing before conversion and after it
abbrev pub value_in : Element → Units → ℤ → Result (Option ℤ) ValueFault
value_in e u z = cond (is_absent z) (Ok None) (value_said (in_english e u z))

abbrev pub qualified_by : ℕ → Result (Option ℤ) ValueFault → Result Stated ValueFault
qualified_by q (Ok v) = Ok (v, q)
qualified_by q (Err f) = Err f

abbrev pub amount_read : Element → Units → ℕ → Option ℤ → Result Stated ValueFault
amount_read e u q None = Err Malformed
amount_read e u q (Some z) = qualified_by q (value_in e u z)

-- M or MM
abbrev pub is_missing : List ℕ → Bool
is_missing cs = bytes_eq cs (77 ∷ []) || bytes_eq cs (77 ∷ 77 ∷ [])

-- T
abbrev pub is_trace : List ℕ → Bool
is_trace cs = bytes_eq cs (84 ∷ [])

-- the elements that know a trace: PP, PC, SW, SD and SF
abbrev pub knows_trace : ℕ → ℕ → Bool
knows_trace a b = (a == 80 && (b == 80 || b == 67)) || (a == 83 && (b == 87 || (b == 68 || b == 70)))

-- a trace is 0.0010 in either unit
abbrev pub trace_read : Element → Result Stated ValueFault
trace_read e = cond (knows_trace e.first e.second) (Ok (Some (pos 10), 90)) (Err Malformed)

-- what a value of an element says
unfoldable pub read_for : Element → Units → List ℕ → Result Stated ValueFault
read_for e u cs = cond (is_missing cs) (Ok (None, 90)) (cond (is_trace cs) (trace_read e) (amount_read e u (qualifier_of cs) (amount_of (number_of cs))))

abbrev pub read_of : Option Element → Units → List ℕ → Result Stated ValueFault
read_of None u cs = Err Malformed
read_of (Some e) u cs = read_for e u cs

-- what a value of a code's element says
abbrev pub read_value : List ℕ → Units → List ℕ → Result Stated ValueFault
read_value code u cs = read_of (element_of (slice_index code 0) (slice_index code 1)) u cs
