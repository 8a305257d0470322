-- Words of a text, what a text is without signs at its ends, and places in a text.
use Rattle.std.specs.Prelude.{ℕ, ◌+◌, ◌-◌, ◌^◌, min, cond, not, ◌==◌, List, length, reverse, take, drop, Option, None, Some, take_while}
use Rattle.std.specs.List.{list_any}

-- the place so many bytes behind another, or the last place there is
abbrev pub place_behind : ℕ → ℕ → ℕ
place_behind place n = min (place + n) (2 ^ 64 - 1)

-- the blanks (32) that a text begins with
abbrev pub blanks_before : List ℕ → ℕ
blanks_before s = length (take_while (λ b. b == 32) s)

-- the bytes before the first blank, or all
abbrev pub word_length : List ℕ → ℕ
word_length s = length (take_while (λ b. not (b == 32)) s)

-- a text that begins with a word, cut behind it
abbrev pub cut_word : List ℕ → Option (List ℕ × List ℕ)
cut_word s = cond (length s == 0) None (Some (take (word_length s) s, drop (word_length s) s))

-- the first word, and what stands behind it
abbrev pub first_word : List ℕ → Option (List ℕ × List ℕ)
first_word s = cut_word (drop (blanks_before s) s)

-- how many of these signs a text begins with
abbrev pub signs_before : List ℕ → List ℕ → ℕ
signs_before signs s = length (take_while (λ b. list_any (λ y. y == b) signs) s)

-- and ends with
abbrev pub signs_behind : List ℕ → List ℕ → ℕ
signs_behind signs s = signs_before signs (reverse s)

-- a text without the signs that it ends with
abbrev pub ended : List ℕ → List ℕ → List ℕ
ended signs s = take (length s - signs_behind signs s) s

-- and without those that it begins with
abbrev pub trimmed : List ℕ → List ℕ → List ℕ
trimmed signs s = drop (signs_before signs (ended signs s)) (ended signs s)
