-- An item is its code and its value. Assumes nothing.
use Rattle.std.proofs.Common.{◌≡◌, ℕ, ◌<◌, false, List, [], ◌∷◌, ◌++◌, length, Some, None, Option, ap, ◌∙◌, subst, arith, MatchOption}
use Rattle.items.proofs.Found.{words_found}
use Rattle.items.proofs.Parting.{trims}
use Rattle.items.specs.declared.mark.Mark.{Mark}
use Rattle.items.specs.declared.mark.Mark.TheVariants.{Blank, Slash, Text}
use Rattle.items.specs.declared.mark.Run.TheVariants.{Blanks, Word}
use Rattle.items.specs.Marks.{after, core, mark_of, marks, passes}
use Rattle.items.specs.Parting.{Halves, ItemsSplit, Reads, Split, WordFound, blank, halves, leaves}
use Rattle.items.specs.Words.{code_and_value, first_word}
use Rattle.std.specs.List.{prefix_len}

-- what begins neither with a blank nor with anything else is empty
neither : (m : Mark) (ms ks : List Mark) → prefix_len (passes Word) (m ∷ ms) ≡ 0 → prefix_len (passes Blanks) (m ∷ ks) ≡ 0 → ⊥
neither Blank ms ks w b = omega arith
neither Slash ms ks w b = omega arith
neither Text ms ks w b = omega arith

-- so blanks stand before a value
gap_some : (gap value back : List ℕ) → prefix_len (passes Word) (marks false (gap ++ (value ++ back))) ≡ 0 → prefix_len (passes Blanks) (marks (leaves false gap) value) ≡ 0 → 0 < length value → 0 < length gap
gap_some (g ∷ gap) value back w b lt = omega arith
gap_some [] [] back w b lt = absurd (omega arith)
gap_some [] (v ∷ vs) back w b lt = absurd (neither (mark_of false v) (marks (after false v) (vs ++ back)) (marks (after false v) vs) w b)

halved : (bs : List ℕ) (w : ℕ × (List ℕ × List ℕ)) → WordFound bs w → Halves bs w.1.0 (core Blanks w.1.1)
halved bs w h =
    let t = trims Blanks 0 w.1.1 in
    record {
      front = h.front;
      gap = t.front;
      back = t.back;
      whole = h.whole ∙ ap (λ l. h.front ++ (w.1.0 ++ l)) t.whole;
      before = h.before;
      outside = h.outside;
      unbroken = h.word;
      some = h.some;
      amid = t.before;
      behind = t.behind;
      first = t.first;
      last = t.last;
      apart = gap_some t.front (core Blanks w.1.1) t.back (subst (λ l. prefix_len (passes Word) (marks false l) ≡ 0) t.whole h.behind) t.first;
    }

split : (bs : List ℕ) (o : Option (ℕ × (List ℕ × List ℕ))) → MatchOption o (Reads Blanks false bs) (λ w. WordFound bs w) → Split bs (code_and_value o)
split bs None h = blank h
split bs (Some w) h = halves (halved bs w h)

pub items_split : ItemsSplit
items_split bs = split bs (first_word bs) (words_found bs)
