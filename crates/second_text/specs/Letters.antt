-- The letters that the forms of messages are named by, and how many letters a line of a message begins with.
use Rattle.std.specs.Prelude.{ℕ, Bool, false, cond, ◌==◌, List, [], ◌∷◌, drop, Option, None, Some, option_map}
use Rattle.second_text.specs.declared.lines.Form.{Form}
use Rattle.second_text.specs.declared.lines.Form.TheVariants.{Single, Table, Series}
use Rattle.second_text.specs.declared.lines.Letters.{Letters}

abbrev pub letter_of : Form → ℕ
-- A
letter_of Single = 65
-- B
letter_of Table = 66
-- E
letter_of Series = 69

-- the point and the form, and R where the message revises
abbrev pub count_of : Letters → ℕ
count_of l = cond l.revised 3 2

abbrev pub form_of : ℕ → Option Form
form_of letter = cond (letter == 65) (Some Single) (cond (letter == 66) (Some Table) (cond (letter == 69) (Some Series) None))

-- R (82)
abbrev pub revises : List ℕ → Bool
revises [] = false
revises (b ∷ bs) = b == 82

-- the letters that a line begins with, behind its first byte, and what stands behind them
abbrev pub lettered : List ℕ → Option (Letters × List ℕ)
lettered [] = None
lettered (dot ∷ []) = None
lettered (dot ∷ letter ∷ rest) =
    option_map
    (λ form. let letters : Letters = record { form = form; revised = revises rest } in (letters, drop (count_of letters) (dot ∷ letter ∷ rest)))
    (form_of letter)
