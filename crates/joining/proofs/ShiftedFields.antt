-- The fields of an opening line and of a body line, wherever the line stands. Assumes nothing.
use Rattle.std.proofs.Common.{◌≡◌, ℕ, ◌+◌, Bool, List, length, drop, Some, None, Ok, Err, Option, Result, refl, ap, ◌∙◌, add_assoc}
use Rattle.std.specs.Option.{option_map, ok_or}
use Rattle.calendar.specs.declared.date.Date.{Date as Day}
use Rattle.calendar.specs.Messages.{message_date}
use Rattle.items.specs.Words.{first_word}
use Rattle.reader.specs.Kinds.{letters_of}
use Rattle.reader.specs.Lines.{Piece, shifted}
use Rattle.reader.specs.declared.kind.Form.{Form}
use Rattle.record.specs.Stations.{station_of}
use Rattle.refusals.specs.declared.Fault.{Fault}
use Rattle.refusals.specs.declared.MessageRefusal.{MessageRefusal}
use Rattle.refusals.specs.declared.MessageRefusal.TheVariants as why
use Rattle.refusals.specs.declared.Refusal.TheVariants.{Message}
use Rattle.events.specs.Events.{fault}
use Rattle.messages.specs.Ways.{then_ok}
use Rattle.openings.specs.Openings.{placed_word, word_at, field, zone_field, Opened, opens_with, opened}

abbrev pub shifted_fault : ℕ → Fault → Fault
shifted_fault n f = fault f.refusal (n + f.place)

-- a field depends on no place, and its refusal has one
abbrev pub shifted_field : {A : Type 0} → ℕ → Result A Fault → Result A Fault
shifted_field n (Ok x) = Ok x
shifted_field n (Err f) = Err (shifted_fault n f)

module _ (n : ℕ) where
  then_shifted : {A B : Type 0} (r : Result A Fault) (k then : A → Result B Fault) → ((a : A) → then a ≡ shifted_field n (k a)) → then_ok (shifted_field n r) then ≡ shifted_field n (then_ok r k)
  then_shifted (Ok a) k then h = h a
  then_shifted (Err f) k then h = refl

  word_shifted : (r : MessageRefusal) (l : Piece) (from : ℕ) (w : Option (ℕ × (List ℕ × List ℕ))) → placed_word r (shifted n l) from w ≡ shifted_field n (placed_word r l from w)
  word_shifted r l from None = ap (λ k. Err (fault (Message r) k)) (add_assoc n l.0 (length l.1))
  word_shifted r l from (Some w) = refl

  or_shifted : {A : Type 0} (r : MessageRefusal) (p q : ℕ) (o : Option A) → ok_or o (fault (Message r) (n + p + q)) ≡ shifted_field n (ok_or o (fault (Message r) (p + q)))
  or_shifted r p q None = ap (λ k. Err (fault (Message r) k)) (add_assoc n p q)
  or_shifted r p q (Some x) = refl

  pub field-shifted : {A : Type 0} (r : MessageRefusal) (read : List ℕ → Option A) (l : Piece) (from : ℕ) → field r read (shifted n l) from ≡ shifted_field n (field r read l from)
  unfolding field word_at
  field-shifted {A} r read l from =
      let reads : ℕ → List ℕ × (ℕ × ℕ) → Result (A × ℕ) Fault = λ p w. ok_or (option_map (λ x. (x, w.1.1)) (read w.0)) (fault (Message r) (p + w.1.0)) in
      ap (λ y. then_ok y (reads (n + l.0))) (word_shifted r l from (first_word (drop from l.1)))
      ∙ then_shifted (placed_word r l from (first_word (drop from l.1))) (reads l.0) (reads (n + l.0)) (λ w. or_shifted r l.0 w.1.0 (option_map (λ x. (x, w.1.1)) (read w.0)))

  pub opened-shifted : (today : Day) (f : Form) (v : Bool) (l : Piece) → opened today f v (shifted n l) ≡ shifted_field n (opened today f v l)
  unfolding opened
  opened-shifted today f v l =
      let zoned : List ℕ × ℕ → Day × ℕ → Result Opened Fault = λ s d. Ok (opens_with f v s.0 d.0 (zone_field l.1 d.1)) in
      let dated : Piece → List ℕ × ℕ → Result Opened Fault = λ q s. then_ok (field why.Date (λ w. message_date w today) q s.1) (zoned s) in
      let date : Piece → List ℕ × ℕ → Result (Day × ℕ) Fault = λ q s. field why.Date (λ w. message_date w today) q s.1 in
      ap (λ y. then_ok y (dated (shifted n l))) (field-shifted why.Station station_of l (letters_of l.1))
      ∙ then_shifted (field why.Station station_of l (letters_of l.1)) (dated l) (dated (shifted n l)) (λ s.
      ap (λ y. then_ok y (zoned s)) (field-shifted why.Date (λ w. message_date w today) l s.1)
      ∙ then_shifted (date l s) (zoned s) (zoned s) (λ d. refl))
