-- How each byte of a line reads: as a blank, as a slash or as text. Everything else is decided by these marks.
use Rattle.std.specs.Prelude.{ℕ, ◌-◌, Bool, true, false, cond, not, ◌||◌, List, [], ◌∷◌, length, ◌==◌, slice_index_or}
use Rattle.items.specs.declared.mark.Mark.{Mark}
use Rattle.items.specs.declared.mark.Mark.TheVariants.{Blank, Slash, Text}
use Rattle.items.specs.declared.mark.Run.{Run}
use Rattle.items.specs.declared.mark.Run.TheVariants.{Blanks, Loose, Stretch, Word}
use Rattle.std.specs.List.{between, suffix_len, prefix_len}

-- whether a comment is open behind the byte b, if one is (`inside`) before it: a colon opens it, and the next closes it
abbrev pub after : Bool → ℕ → Bool
after inside b = cond (b == 58) (not inside) inside

-- what the byte b reads as: a comment is blank, and so are its colons
abbrev pub mark_of : Bool → ℕ → Mark
mark_of inside b = cond (inside || (b == 58 || b == 32)) Blank (cond (b == 47) Slash Text)

-- what each byte reads as
abbrev pub marks : Bool → List ℕ → List Mark
marks inside [] = []
marks inside (b ∷ bs) = mark_of inside b ∷ marks (after inside b) bs

-- which marks a run takes
abbrev pub passes : Run → Mark → Bool
passes Blanks Blank = true
passes Blanks Slash = false
passes Blanks Text = false
passes Loose Blank = true
passes Loose Slash = true
passes Loose Text = false
passes Word Blank = false
passes Word Slash = true
passes Word Text = true
passes Stretch Blank = true
passes Stretch Slash = false
passes Stretch Text = true

-- how many bytes are left where the run at the end falls away
abbrev pub edge : Run → List Mark → ℕ
edge run ms = length ms - suffix_len (passes run) ms

-- the bytes less the runs at both ends
abbrev pub core : Run → List ℕ → List ℕ
core run bs = between (prefix_len (passes run) (marks false bs)) (edge run (marks false bs)) bs

abbrev pub is_slash : Mark → Bool
is_slash Blank = false
is_slash Slash = true
is_slash Text = false

-- how many bytes are left where the blanks at the end fall away, and one slash before them
abbrev pub body_len : List Mark → ℕ
body_len ms = cond (is_slash (slice_index_or ms (edge Blanks ms - 1) Text)) (edge Blanks ms - 1) (edge Blanks ms)
