-- Lines that neither open nor continue a message.
use Rattle.std.proofs.Common.{◌≡◌, ℕ, ◌+◌, Bool, true, false, cond, List, [], ◌∷◌, ◌++◌, map, length, sym, refl, ap, ◌∙◌, subst, append_assoc, append-nil, ◌≢◌, length-append}
use Rattle.std.specs.List.{AllByRecursion}
use Rattle.std.proofs.ByRecursion.{All-map}
use Rattle.reader.specs.Lines.{Piece, lines, shifted}
use Rattle.refusals.specs.declared.Fault.{Fault}
use Rattle.refusals.specs.declared.MessageRefusal.TheVariants as why
use Rattle.refusals.specs.declared.Refusal.TheVariants.{Message}
use Rattle.terms.specs.Standing.{Standing}
use Rattle.events.specs.Events.{Event, fault, refused}
use Rattle.events.specs.Passing.{logged_all}
use Rattle.events.specs.Room.{refusals}
use Rattle.daylight.specs.Settings.{Setting}
use Rattle.messages.specs.Models.{Common, Reached}
use Rattle.stages.specs.Stages.{Stage, outside, skipping, header, body, is_table, next, came, closing, within}
use Rattle.shef.specs.Decodes.{ends_here}
use Rattle.shef.specs.Texts.{Stretch, cut, end_of, stretches, to_come, events}
use Rattle.shef.proofs.Whole.{behind_line, to_come-line, to_come_skipping}
use Rattle.laws.specs.Outside.{NoOpening, NoContinuation}
use Rattle.laws.proofs.Idle.{between, skipped, ending, front, nothing, cut_none}
use Rattle.laws.proofs.Runs.{Runs, past, stopped, came_runs, refusals-append}
use Rattle.joining.specs.Joining.{shifted_events, EndsLine, empty, feed, opens_first}
use Rattle.joining.specs.Ordinary.{Ordinary, NoneOpen, OrdinaryLines}
use Rattle.joining.proofs.Joining.{zero_shifted, by_lines, texts_join}
use Rattle.joining.proofs.OneMessage.{behind_message}
use Rattle.joining.proofs.ShiftedStages.{to_come-shifted}

-- a fault for want of .END is none of these faults
abbrev NotAt : ℕ → List Fault → Type 0
NotAt e fs = AllByRecursion (λ f. f ≢ fault (Message why.Unfinished) e) fs

abbrev Shut : ℕ → List Event → Type 0
Shut e es = NotAt e (refusals es)

last_of : (e : ℕ) (fs gs : List Fault) → NotAt e (fs ++ gs) → NotAt e gs
last_of e [] gs h = h
last_of e (f ∷ fs) gs h = last_of e fs gs h.1

shut_last : (e : ℕ) (es fs : List Event) → Shut e (es ++ fs) → Shut e fs
shut_last e es fs h = last_of e (refusals es) (refusals fs) (subst (NotAt e) (refusals-append es fs) h)

-- ordinary lines behind lines that end at e, in a text that ends at d
module _ (S : Setting) (e d : ℕ) (plain : List Piece) (os : AllByRecursion NoOpening plain) (cs : AllByRecursion NoContinuation plain) where
  in_header : (m : Common) (t : Standing) (p : Reached) (n : ℕ) (hs : List Piece) (b : Bool) → is_table m.form ≡ b → Shut e (closing (header m t p n hs) e) → within S d (header m t p n hs) plain ≡ closing (header m t p n hs) e
  in_header m t p n hs true is shut =
      let open_at : ◌≡◌ {A = List Event} (closing (header m t p n hs) e) (refused (Message why.Unfinished) e ∷ []) = ap (λ v. cond v (refused (Message why.Unfinished) e ∷ []) []) is in
      absurd ((subst (Shut e) open_at shut).0 refl)
  in_header m t p n hs false is shut = ending S d m t p n hs is plain os cs ∙ sym (ap (λ v. cond v (refused (Message why.Unfinished) e ∷ []) []) is)

  at_end : (σ : Stage) → Shut e (closing σ e) → within S d σ plain ≡ closing σ e
  at_end outside shut = between S d plain os cs
  at_end skipping shut = skipped S d plain os
  at_end (header m t p n hs) shut = in_header m t p n hs (is_table m.form) refl shut
  at_end (body m t hs) shut = absurd (shut.0 refl)

  no_more : (σ : Stage) → Shut e (to_come S e σ []) → to_come S d σ plain ≡ to_come S e σ []
  no_more σ shut =
      ap (λ (c : List Piece × List Stretch). within S (end_of d c.1) σ c.0 ++ stretches S d c.1) (cut_none plain os)
      ∙ ap (λ (es : List Event). es ++ []) (at_end σ (subst (Shut e) (append-nil (closing σ e)) shut))

  -- a line, and what it leads to
  one_line : (ls : List Piece) {es : (Stage → List Event) → List Event} → Runs es → ((σ : Stage) → Shut e (to_come S e σ ls) → to_come S d σ (ls ++ plain) ≡ to_come S e σ ls)
      → Shut e (es (behind_line S e ls) ++ stretches S e (cut ls).1)
      → es (behind_line S d (ls ++ plain)) ++ stretches S d (cut (ls ++ plain)).1 ≡ es (behind_line S e ls) ++ stretches S e (cut ls).1
  one_line ls {es} (past xs q is) more shut =
      let way : (k : Stage → List Event) (rest : List Event) → es k ++ rest ≡ logged_all xs ++ (k q ++ rest) = λ k rest. ap (λ (x : List Event). x ++ rest) (is k) ∙ append_assoc (logged_all xs) (k q) rest in
      let there = way (behind_line S e ls) (stretches S e (cut ls).1) in
      way (behind_line S d (ls ++ plain)) (stretches S d (cut (ls ++ plain)).1)
      ∙ ap (λ (x : List Event). logged_all xs ++ x) (more q (shut_last e (logged_all xs) (to_come S e q ls) (subst (Shut e) there shut)))
      ∙ sym there
  one_line ls {es} (stopped xs f is) more shut =
      let rest = stretches S e (cut ls).1 in
      let skip = subst (Shut e) (to_come_skipping S e ls) (shut_last e (es (behind_line S e ls)) rest shut) in
      ap (λ (x : List Event). x ++ stretches S d (cut (ls ++ plain)).1) (is (behind_line S d (ls ++ plain)) ∙ sym (is (behind_line S e ls)))
      ∙ ap (λ (x : List Event). es (behind_line S e ls) ++ x) (to_come_skipping S d (ls ++ plain) ∙ more skipping skip ∙ sym (to_come_skipping S e ls))

  behind_lines : (ls : List Piece) (σ : Stage) → Shut e (to_come S e σ ls) → to_come S d σ (ls ++ plain) ≡ to_come S e σ ls
  behind_lines [] σ shut = no_more σ shut
  behind_lines (l ∷ ls) σ shut =
      let whole = to_come-line S e σ l ls in
      let left = came S (next S σ l) (behind_line S e ls) ++ stretches S e (cut ls).1 in
      to_come-line S d σ l (ls ++ plain)
      ∙ ap (λ (x : List Event). ends_here σ l ++ x) (one_line ls (came_runs S (next S σ l)) (behind_lines ls) (shut_last e (ends_here σ l) left (subst (Shut e) whole shut)))
      ∙ sym whole

module _ (S : Setting) where
  behind_text : (text plain : List ℕ) → EndsLine text → NoneOpen S text → Ordinary plain → events S (text ++ plain) ≡ events S text
  behind_text text plain empty shut o = nothing S plain o.0 o.1
  behind_text text plain (feed from) shut o =
      let n = length (from ++ 10 ∷ []) in
      let ps = map (shifted n) (lines plain) in
      by_lines S from plain
      ∙ behind_lines S n (n + length plain) ps (All-map NoOpening (shifted n) (lines plain) o.0) (All-map NoContinuation (shifted n) (lines plain) o.1) (lines (from ++ 10 ∷ [])) outside shut

  front_text : (plain text : List ℕ) → EndsLine plain → Ordinary plain → events S (plain ++ text) ≡ shifted_events (length plain) (events S text)
  front_text plain text empty o = zero_shifted (events S text)
  front_text plain text (feed from) o =
      let fed = from ++ 10 ∷ [] in
      let n = length fed in
      by_lines S from text
      ∙ front S (n + length text) (lines fed) (map (shifted n) (lines text)) o.0 o.1
      ∙ to_come-shifted n S (length text) (lines text)

  both_end : (first plain : List ℕ) → EndsLine first → EndsLine plain → EndsLine (first ++ plain)
  both_end first plain ends empty = subst EndsLine (sym (append-nil first)) ends
  both_end first plain ends (feed from) = subst EndsLine (append_assoc first from (10 ∷ [])) (feed (first ++ from))

  between_texts : (first plain second : List ℕ) → EndsLine first → NoneOpen S first → EndsLine plain → Ordinary plain → opens_first (lines second) ≡ true
      → events S (first ++ (plain ++ second)) ≡ events S first ++ shifted_events (length first + length plain) (events S second)
  between_texts first plain second ends shut pends o opens =
      ap (events S) (sym (append_assoc first plain second))
      ∙ texts_join S (first ++ plain) second (both_end first plain ends pends) opens
      ∙ ap (λ (es : List Event). es ++ shifted_events (length (first ++ plain)) (events S second)) (behind_text first plain ends shut o)
      ∙ ap (λ n. events S first ++ shifted_events n (events S second)) (length-append first plain)

pub ordinary_lines : OrdinaryLines
ordinary_lines = record { front = front_text; behind = behind_text; between = between_texts; none_open = behind_message }
