-- When outcomes of the two decoders are the same.
use Rattle.std.specs.Prelude.{ℕ, Bool, ◌&&◌, ◌==◌, List, [], ◌∷◌, ◌++◌, ◌+◌, ◌-◌, ◌^◌, min, length, take, String, vec_len, string_bytes}
use Rattle.std.specs.List.{flat_map, list_all, zip}
use Rattle.std.specs.Str.{bytes_eq}
use Rattle.std.specs.declared.alloc.Global.{Global}
use Rattle.calendar.specs.declared.date.Date.{Date}
use Rattle.cases.specs.declared.form.Case.{Case}
use Rattle.daylight.specs.Settings.{Setting}
use Rattle.events.specs.Events.{met, records}
use Rattle.line.specs.Lines.{line}
use Rattle.refusals.specs.declared.Fault.{Fault}
use Rattle.refusals.specs.Numbers.{number_of}
use Rattle.second.specs.Answers.{number_of as answer_number}
use Rattle.second.specs.declared.messages.Outcome.{Outcome}
use Rattle.second_items.specs.Refusals.{number_of as told_number}
use Rattle.second_items.specs.declared.refusals.Fault.{Fault as Told}
use Rattle.shef.specs.Decodes.{answer_of, counted, decoded, delivered, ending_number}
use Rattle.shef.specs.declared.decode.Answer.{Answer}

-- a line of text with its line feed
abbrev pub ended : String Global → List ℕ
ended line = string_bytes line ++ 10 ∷ []

abbrev pub same_fault : Fault × Told → Bool
same_fault f = number_of f.0.refusal == told_number f.1.refusal && f.0.place == f.1.place

-- as many faults, and each like the one at its place
abbrev pub same_faults : List Fault → List Told → Bool
same_faults faults told = length faults == length told && list_all same_fault (zip faults told)

-- the number of the answer, and how many records and faults there are
abbrev pub same_counts : ℕ → ℕ → ℕ → Outcome → Bool
same_counts number delivered found o = number == answer_number o.answer && delivered == vec_len o.records && found == vec_len o.faults

abbrev pub same_answer : Answer → Outcome → Bool
same_answer a o = same_counts (ending_number a.ending) a.delivered a.found o

-- the lines byte for byte, and the faults
abbrev pub same_lists : List ℕ → List Fault → Outcome → Bool
same_lists listing faults o = bytes_eq listing (flat_map ended o.records.items) && same_faults faults o.faults.items

-- the lines byte for byte, the faults, and the answer
abbrev pub same_outcome : Answer → List ℕ → List Fault → Outcome → Bool
same_outcome a listing faults o = same_lists listing faults o && same_answer a o

-- the faults that are listed: there is room for one at each byte of a text, and two besides
abbrev pub listed_faults : Setting → ℕ → List ℕ → List Fault
listed_faults S room text = take (length text + 2) (met room (decoded S text))

-- the outcome is what the rules give the text, with room for so many records
abbrev pub as_by_rules : Setting → ℕ → List ℕ → Outcome → Bool
as_by_rules S room text o =
    same_lists (flat_map line (take room (records (decoded S text)))) (listed_faults S room text) o
    && same_counts (answer_of S room text) (delivered room (decoded S text)) (counted (length (met room (decoded S text)))) o

-- the current date of a case, so many years on
abbrev pub day_of : Case → ℕ → Date
day_of case years = record { year = min (case.year + years) (2 ^ 16 - 1); month = case.month; day = case.day }
