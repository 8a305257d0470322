-- The words of a line, parted by blanks and comments, and the parts of an item.
use Rattle.std.specs.Prelude.{ℕ, false, cond, List, [], take, drop, Some, None, Option}
use Rattle.items.specs.declared.mark.Run.TheVariants.{Blanks, Word}
use Rattle.items.specs.declared.word.Word.{Word as Found}
use Rattle.items.specs.Items.{is_blank}
use Rattle.items.specs.Marks.{core, marks, passes}
use Rattle.std.specs.List.{prefix_len}

-- how many bytes stand before the first word
abbrev pub lead_of : List ℕ → ℕ
lead_of bs = prefix_len (passes Blanks) (marks false bs)

-- how many bytes the word takes with which the bytes begin
abbrev pub word_len : List ℕ → ℕ
word_len bs = prefix_len (passes Word) (marks false bs)

-- how many bytes stand before the first word, the word, and what follows it
abbrev pub first_word : List ℕ → Option (ℕ × (List ℕ × List ℕ))
first_word bs = cond (is_blank bs) None (Some (lead_of bs, (take (word_len (drop (lead_of bs) bs)) (drop (lead_of bs) bs), drop (word_len (drop (lead_of bs) bs)) (drop (lead_of bs) bs))))

abbrev pub word_parts : Found → ℕ × (List ℕ × List ℕ)
word_parts w = (w.lead, (w.part.now, w.rest.now))

abbrev pub code_and_value : Option (ℕ × (List ℕ × List ℕ)) → List ℕ × List ℕ
code_and_value None = ([], [])
code_and_value (Some w) = (w.1.0, core Blanks w.1.1)

-- an item's code, its first word, and its value, the rest less the blanks around it
abbrev pub split_item : List ℕ → List ℕ × List ℕ
split_item bs = code_and_value (first_word bs)
