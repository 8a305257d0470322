-- A text has no more faults than lines, and no more lines than bytes.
use Rattle.std.proofs.Common.{◌≡◌, ℕ, zero, suc, ◌+◌, ◌^◌, ◌<◌, ◌≤◌, Bool, true, false, cond, eqb, List, [], ◌∷◌, ◌++◌, length, Some, None, Option, sym, refl, subst, arith}
use Rattle.std.proofs.lemmas.List.{length_push}
use Rattle.calendar.specs.Dates.{message_day}
use Rattle.reader.specs.Kinds.{kind_of}
use Rattle.reader.specs.Lines.{Piece, less_return, last_line, lines_from, lines}
use Rattle.record.specs.Entries.{Entry}
use Rattle.refusals.specs.declared.Fault.{Fault}
use Rattle.refusals.specs.declared.Refusal.TheVariants.{CurrentDate}
use Rattle.events.specs.Events.{Event, logged, refused, met}
use Rattle.events.specs.Passing.{logged_all}
use Rattle.daylight.specs.Settings.{Setting}
use Rattle.stages.specs.Stages.{outside, within}
use Rattle.shef.specs.Texts.{is_opening, Stretch, on_front, cut, end_of, stretch, stretches, events}
use Rattle.shef.specs.Decodes.{counted, decoded}
use Rattle.laws.specs.Endings.{lastly, EndsOnce}
use Rattle.laws.specs.Counts.{FaultsCounted}
use Rattle.laws.proofs.Ending.{ends_within, ends_stretch}

-- no more lines than bytes
last_few : (p : ℕ) (line : List ℕ) → length (last_line p line) ≤ length line
last_few p [] = omega arith
last_few p (b ∷ bs) = omega arith

from_few : (p : ℕ) (line text : List ℕ) → length (lines_from p line text) ≤ length line + length text
from_few p line [] = omega (arith, last_few p line)
from_few p line (b ∷ bs) =
    elim (eqb b 10) as (λ v. length (cond v ((p, less_return line) ∷ lines_from (p + length line + 1) [] bs) (lines_from p (line ++ b ∷ []) bs)) ≤ length line + length (b ∷ bs)) [
      | true ↦ omega (arith, from_few (p + length line + 1) [] bs)
      | false ↦ omega (arith, length_push line b, from_few p (line ++ b ∷ []) bs)
    ]

lines_few : (text : List ℕ) → length (lines text) ≤ length text
lines_few text = omega (arith, from_few 0 [] text)

-- no more stretches and lines before them than lines
front_few : (v : Bool) (l : Piece) (c : List Piece × List Stretch) → length (on_front v l c).0 + length (on_front v l c).1 ≤ length c.0 + length c.1 + 1
front_few true l c = omega arith
front_few false l c = omega arith

cut_few : (ls : List Piece) → length (cut ls).0 + length (cut ls).1 ≤ length ls
cut_few [] = omega arith
cut_few (l ∷ ls) = omega (arith, front_few (is_opening (kind_of l.1)) l (cut ls), cut_few ls)

-- records and then perhaps one refusal are at most one fault, whatever room there is
last_met : (room : ℕ) (o : Option Fault) → length (met room (lastly o)) ≤ 1
last_met room None = omega arith
last_met room (Some f) = omega arith

logs-met : (room : ℕ) (xs : List (ℕ × Entry)) (o : Option Fault) → length (met room (logged_all xs ++ lastly o)) ≤ 1
logs-met room [] o = last_met room o
logs-met zero (x ∷ xs) o = omega arith
logs-met (suc room) (x ∷ xs) o = logs-met room xs o

once_met : (room : ℕ) {es : List Event} → EndsOnce es → length (met room es) ≤ 1
once_met room {es} r = subst (λ fs. length (met room fs) ≤ 1) (sym r.is) (logs-met room r.logs r.ending)

together : (b room : ℕ) (es fs : List Event) → ((n : ℕ) → length (met n fs) ≤ b) → length (met room (es ++ fs)) ≤ length (met room es) + b
together b room [] fs h = omega (arith, h room)
together b room (refused r p ∷ es) fs h = omega (arith, together b room es fs h)
together b zero (logged p e ∷ es) fs h = omega arith
together b (suc room) (logged p e ∷ es) fs h = together b room es fs h

stretches-met : (S : Setting) (e : ℕ) (ss : List Stretch) (room : ℕ) → length (met room (stretches S e ss)) ≤ length ss
stretches-met S e [] room = omega arith
stretches-met S e (s ∷ ss) room =
    omega (arith, together (length ss) room (stretch S (end_of e ss) s) (stretches S e ss) (stretches-met S e ss), once_met room (ends_stretch S (end_of e ss) s))

preface_met : (S : Setting) (e room : ℕ) (ls : List Piece) → length (met room (within S e outside ls)) ≤ length ls
preface_met S e room [] = omega arith
preface_met S e room (l ∷ ls) = omega (arith, once_met room (ends_within S e outside (l ∷ ls)))

faults_few : (S : Setting) (room : ℕ) (text : List ℕ) → length (met room (events S text)) ≤ length (lines text)
faults_few S room text =
    let c = cut (lines text) in
    let e = end_of (length text) c.1 in
    omega (arith, together (length c.1) room (within S e outside c.0) (stretches S (length text) c.1) (stretches-met S (length text) c.1), preface_met S e room c.0, cut_few (lines text))

-- the count
exact : (S : Setting) (room : ℕ) (text : List ℕ) → length text < 2 ^ 64 → counted (length (met room (decoded S text))) ≡ length (met room (decoded S text))
exact S room text h =
    elim (message_day S.today) as (λ v. counted (length (met room (cond v (events S text) (refused CurrentDate 0 ∷ [])))) ≡ length (met room (cond v (events S text) (refused CurrentDate 0 ∷ [])))) [
      | true ↦ omega (arith, faults_few S room text, lines_few text)
      | false ↦ refl
    ]

pub faults_counted : FaultsCounted
faults_counted = record { lines_few = lines_few; faults_few = faults_few; exact = exact }
