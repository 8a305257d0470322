-- What an item is in its message: by the form of the message, whether a table's header has it, and the code that came before it.
use Rattle.std.specs.Prelude.{ℕ, Bool, cond, not, ◌||◌, List, Some, None, Option}
use Rattle.terms.specs.declared.stage.Stage.{Stage}
use Rattle.terms.specs.declared.stage.Stage.TheVariants.{Free}
use Rattle.merging.specs.Merging.{Sided, of_header, of_line, is_d}
use Rattle.items.specs.Words.{split_item}
use Rattle.quantity.specs.Codes.{code_of}
use Rattle.reader.specs.declared.kind.Form.{Form}
use Rattle.reader.specs.declared.kind.Form.TheVariants.{A, B, E}
use Rattle.messages.specs.Models.{Common, Reached}
use Rattle.messages.specs.Turns.{is_empty, stage_of}

abbrev pub bytes_of : Sided → List ℕ
bytes_of (of_header x) = x.1
bytes_of (of_line x) = x.1

-- an item that is neither empty nor a D item
abbrev pub is_plain : List ℕ → Bool
is_plain item = not (is_empty item || is_d item)

-- a plain item is a code alone, a code with its value, a value for the code that is left, or a step
pub data Role : Type 0 where
  code_alone : Role
  code_with_value : Role
  value_alone : Role
  step : Role

-- in .E the first plain item is the code
abbrev pub role_in : Form → Option (List ℕ) → Role
role_in A code = code_with_value
role_in B code = value_alone
role_in E None = code_alone
role_in E (Some code) = step

abbrev pub role_of : Common → Reached → Sided → Role
role_of m p (of_header x) = code_alone
role_of m p (of_line x) = role_in m.form p.code

-- where a D item stands
abbrev pub stage_in : Form → ℕ → Stage
stage_in A steps = Free
stage_in B steps = Free
stage_in E steps = stage_of steps

abbrev pub stage_at : Common → Reached → Sided → Stage
stage_at m p (of_header x) = Free
stage_at m p (of_line x) = stage_in m.form p.steps

-- the signs that a plain item gives as a code
abbrev pub signs_in : Role → List ℕ → Option (List ℕ)
signs_in code_alone item = Some item
signs_in code_with_value item = Some (split_item item).0
signs_in value_alone item = None
signs_in step item = None

-- a value: the full code that it takes, if there is one, its text, and the number of its step
pub record Asked : Type 0 where
  pub code : Option (List ℕ)
  pub text : List ℕ
  pub step : ℕ

-- the value that a plain item gives, where the code came before it or is its own; a value that is no step is step 0
abbrev pub asked_in : Role → Reached → List ℕ → Option Asked
asked_in code_alone p item = None
asked_in code_with_value p item = Some (record { code = code_of (split_item item).0; text = (split_item item).1; step = 0 })
asked_in value_alone p item = Some (record { code = p.code; text = item; step = 0 })
asked_in step p item = Some (record { code = p.code; text = item; step = p.steps })

-- the signs that an item gives as a code
abbrev pub item_signs : Common → Reached → Sided → Option (List ℕ)
item_signs m p x = cond (is_plain (bytes_of x)) (signs_in (role_of m p x) (bytes_of x)) None

-- the value that an item gives
abbrev pub item_asked : Common → Reached → Sided → Option Asked
item_asked m p x = cond (is_plain (bytes_of x)) (asked_in (role_of m p x) p (bytes_of x)) None
