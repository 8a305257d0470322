-- What is compared is what the rules give.
use Rattle.std.proofs.Common.{◌≡◌, ℕ, List, length, take}
use Rattle.std.specs.List.{flat_map}
use Rattle.events.specs.Events.{met, records}
use Rattle.daylight.specs.Settings.{Setting}
use Rattle.line.specs.Lines.{line}
use Rattle.refusals.specs.declared.Fault.{Fault}
use Rattle.second.specs.declared.messages.Outcome.{Outcome}
use Rattle.shef.specs.Decodes.{answer_of, counted, decoded, delivered, ending_number}
use Rattle.shef.specs.declared.decode.Answer.{Answer}
use Rattle.agreement.specs.Agreement.{as_by_rules, listed_faults, same_outcome}

module _ (S : Setting) (room : ℕ) (text : List ℕ) (o : Outcome) (a : Answer) (listing : List ℕ) (faults : List Fault)
    (lines : listing ≡ flat_map line (take room (records (decoded S text))))
    (told : faults ≡ listed_faults S room text)
    (number : ending_number a.ending ≡ answer_of S room text)
    (count : a.delivered ≡ delivered room (decoded S text))
    (found : a.found ≡ counted (length (met room (decoded S text)))) where
  pub by_rules : same_outcome a listing faults o ≡ as_by_rules S room text o
  by_rules = cc
