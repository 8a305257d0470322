-- Which refusals apply to an item, each by itself, and that an item is refused by the lowest of them.
use Rattle.std.specs.Prelude.{◌≡◌, ℕ, ◌^◌, ◌≤◌, Bool, true, false, ◌&&◌, ◌||◌, List, is_some, ℤ, Some, None, Option, slice_index, unsigned_abs}
use Rattle.merging.specs.Merging.{Sided, is_d}
use Rattle.terms.specs.Items.{after_item}
use Rattle.terms.specs.Observed.{observed_at}
use Rattle.terms.specs.Standing.{Standing}
use Rattle.quantity.specs.Amounts.{is_absent}
use Rattle.quantity.specs.Codes.{code_of, full_code, is_variable}
use Rattle.quantity.specs.Elements.{element_of}
use Rattle.quantity.specs.declared.element.Element.{Element}
use Rattle.quantity.specs.declared.units.Units.{Units}
use Rattle.refusals.specs.Numbers.{number_of}
use Rattle.refusals.specs.declared.ItemRefusal.{ItemRefusal}
use Rattle.refusals.specs.declared.ItemRefusal.TheVariants.{DItem, Code, NoCodeOrInterval, NoDuration, Value, TooLarge, NoTime}
use Rattle.refusals.specs.declared.Refusal.TheVariants.{Item}
use Rattle.values.specs.Numbers.{amount_of}
use Rattle.values.specs.Reading.{number_of as figures_of, is_missing, is_trace, knows_trace, in_english}
use Rattle.daylight.specs.Settings.{Setting}
use Rattle.messages.specs.Models.{Common, Reached}
use Rattle.messages.specs.Roles.{Role, code_alone, code_with_value, value_alone, step, bytes_of, is_plain, role_of, stage_at, Asked, item_signs, item_asked}

-- a code whose element knows a trace
abbrev pub traced : Option (List ℕ) → Bool
traced None = false
traced (Some code) = knows_trace (slice_index code 0) (slice_index code 1)

-- M or MM, T where a trace is known, or a number and perhaps a qualifier
abbrev pub is_value : Option (List ℕ) → List ℕ → Bool
is_value code text = is_missing text || ((is_trace text && traced code) || is_some (amount_of (figures_of text)))

-- a number that says no missing value, and comes to 10^12 ten-thousandths or more in English units
pub record Outgrown (code : List ℕ) (units : Units) (text : List ℕ) : Type 0 where
  pub element : Element
  pub amount : ℤ
  pub named : element_of (slice_index code 0) (slice_index code 1) ≡ Some element
  pub says : amount_of (figures_of text) ≡ Some amount
  pub known : is_absent amount ≡ false
  pub large : 10 ^ 12 ≤ unsigned_abs (in_english element units amount)

-- a value on a body line lacks a code that is left for it, a step lacks an interval
abbrev pub Lacks : Role → Reached → Type 0
Lacks code_alone p = ⊥
Lacks code_with_value p = ⊥
Lacks value_alone p = p.code ≡ None
Lacks step p = p.terms.interval ≡ None

-- what 9, 10, 11 and 12 say of a value
abbrev pub AskedInVain : Setting → Common → Standing → Asked → ItemRefusal → Type 0
AskedInVain S m t a DItem = ⊥
AskedInVain S m t a Code = ⊥
AskedInVain S m t a NoCodeOrInterval = ⊥
-- its code has duration V, and no DV is in force
AskedInVain S m t a NoDuration = (code : List ℕ) × ((a.code ≡ Some code) × ((is_variable (slice_index code 2) ≡ true) × (t.variable ≡ None)))
-- its text is absent or no value of its code
AskedInVain S m t a Value = is_value a.code a.text ≡ false
-- it is too large once converted
AskedInVain S m t a TooLarge = (code : List ℕ) × ((a.code ≡ Some code) × Outgrown code t.units a.text)
-- it has no observation time
AskedInVain S m t a NoTime = observed_at S.daylight m.zone t a.step ≡ None

abbrev pub ValueInVain : Setting → Common → Reached → Sided → ItemRefusal → Type 0
ValueInVain S m p x r = (a : Asked) × ((item_asked m p x ≡ Some a) × AskedInVain S m p.terms a r)

-- a refusal applies to an item, whatever else is wrong with it
abbrev pub Applies : Setting → Common → Reached → Sided → ItemRefusal → Type 0
-- 6: a D item breaks its rule, or may not stand there
Applies S m p x DItem = (is_d (bytes_of x) ≡ true) × (after_item S.today S.daylight m.zone (stage_at m p x) (bytes_of x) p.terms ≡ None)
-- 7: a code breaks its rule
Applies S m p x Code = (signs : List ℕ) × ((item_signs m p x ≡ Some signs) × (code_of signs ≡ None))
-- 8: a value has no code left for it, or as a step no interval
Applies S m p x NoCodeOrInterval = (is_plain (bytes_of x) ≡ true) × Lacks (role_of m p x) p
Applies S m p x NoDuration = ValueInVain S m p x NoDuration
Applies S m p x Value = ValueInVain S m p x Value
Applies S m p x TooLarge = ValueInVain S m p x TooLarge
Applies S m p x NoTime = ValueInVain S m p x NoTime

abbrev pub number : ItemRefusal → ℕ
number r = number_of (Item r)

-- a refusal applies to an item, and none with a lower number does
pub record Lowest (S : Setting) (m : Common) (p : Reached) (x : Sided) (r : ItemRefusal) : Type 0 where
  pub applies : Applies S m p x r
  pub least : (other : ItemRefusal) → Applies S m p x other → number r ≤ number other

-- the code that waits for a value, if there is one, is a full code
abbrev pub Coded : Reached → Type 0
Coded p = (code : List ℕ) → p.code ≡ Some code → full_code code ≡ true
