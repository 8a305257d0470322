-- Two texts, one behind the other. Assumes nothing.
use Rattle.std.proofs.Common.{◌≡◌, ℕ, ◌+◌, true, false, cond, eqb, List, [], ◌∷◌, ◌++◌, map, length, sym, refl, ap, ◌∙◌, append_assoc, zero-add, arith, length-append}
use Rattle.std.proofs.lemmas.List.{length_push}
use Rattle.std.proofs.lemmas.Bool.{true≢false}
use Rattle.reader.specs.Lines.{Piece, last_line, less_return, lines, lines_from, shifted}
use Rattle.reader.proofs.Joins.{lines_join}
use Rattle.events.specs.Events.{Event, logged, refused}
use Rattle.daylight.specs.Settings.{Setting}
use Rattle.stages.specs.Stages.{outside}
use Rattle.shef.specs.Texts.{to_come, events}
use Rattle.joining.specs.Joining.{shifted_events, EndsLine, empty, feed, opens_first, TextsJoin}
use Rattle.joining.proofs.Splits.{to_come_join}
use Rattle.joining.proofs.ShiftedStages.{to_come-shifted}

-- the first line, if there is one, begins at p
abbrev BeginsAt : ℕ → List Piece → Type 0
BeginsAt p [] = Unit {0}
BeginsAt p (l ∷ ls) = l.0 ≡ p

last_begins : (p : ℕ) (line : List ℕ) → BeginsAt p (last_line p line)
last_begins p [] = tt
last_begins p (b ∷ bs) = refl

first_begins : (p : ℕ) (line text : List ℕ) → BeginsAt p (lines_from p line text)
first_begins p line [] = last_begins p line
first_begins p line (b ∷ bs) =
    elim (eqb b 10) as (λ v. BeginsAt p (cond v ((p, less_return line) ∷ lines_from (p + length line + 1) [] bs) (lines_from p (line ++ b ∷ []) bs))) [ true ↦ refl | false ↦ first_begins p (line ++ b ∷ []) bs ]

-- lines behind an opening, the first of which begins the second text
lines-behind : (S : Setting) (n e : ℕ) (xs ys : List Piece) → opens_first ys ≡ true → BeginsAt 0 ys → to_come S (n + e) outside (xs ++ map (shifted n) ys) ≡ to_come S n outside xs ++ shifted_events n (to_come S e outside ys)
lines-behind S n e xs [] h at = absurd (true≢false (sym h))
lines-behind S n e xs (l ∷ ls) h at =
    let here : n + l.0 ≡ n = omega arith in
    to_come_join S (n + e) outside xs (shifted n l) (map (shifted n) ls) h
    ∙ ap (λ d. to_come S d outside xs ++ to_come S (n + e) outside (map (shifted n) (l ∷ ls))) here
    ∙ ap (λ (es : List Event). to_come S n outside xs ++ es) (to_come-shifted n S e (l ∷ ls))

-- a text that begins at 0 stands where it stood
pub zero_shifted : (es : List Event) → es ≡ shifted_events 0 es
zero_shifted [] = refl
zero_shifted (logged p e ∷ es) = ap (λ k. logged k e ∷ es) (sym (zero-add p)) ∙ ap (λ l. logged (0 + p) e ∷ l) (zero_shifted es)
zero_shifted (refused r p ∷ es) = ap (λ k. refused r k ∷ es) (sym (zero-add p)) ∙ ap (λ l. refused r (0 + p) ∷ l) (zero_shifted es)

-- what two texts come to, the first of which ends with a line feed, by their lines
module _ (S : Setting) (front second : List ℕ) where
  abbrev fed : List ℕ
  fed = front ++ 10 ∷ []

  pub by_lines : events S (fed ++ second) ≡ to_come S (length fed + length second) outside (lines fed ++ map (shifted (length fed)) (lines second))
  by_lines =
      ap (λ d. to_come S d outside (lines (fed ++ second))) (length-append fed second)
      ∙ ap (to_come S (length fed + length second) outside)
      (ap lines (append_assoc front (10 ∷ []) second) ∙ lines_join front second ∙ ap (λ n. lines fed ++ map (shifted n) (lines second)) (sym (length_push front 10)))

module _ (S : Setting) (second : List ℕ) (opens : opens_first (lines second) ≡ true) where
  behind_feed : (front : List ℕ) → events S ((front ++ 10 ∷ []) ++ second) ≡ events S (front ++ 10 ∷ []) ++ shifted_events (length (front ++ 10 ∷ [])) (events S second)
  behind_feed front =
      let first : List ℕ = front ++ 10 ∷ [] in
      by_lines S front second
      ∙ lines-behind S (length first) (length second) (lines first) (lines second) opens (first_begins 0 [] second)

  behind : {first : List ℕ} → EndsLine first → events S (first ++ second) ≡ events S first ++ shifted_events (length first) (events S second)
  behind empty = zero_shifted (events S second)
  behind (feed front) = behind_feed front

pub texts_join : TextsJoin
texts_join S first second ends opens = behind S second opens ends
