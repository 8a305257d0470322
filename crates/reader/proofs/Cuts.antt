-- The lines of a text cut it. Assumes nothing.
use Rattle.std.proofs.Common.{◌≡◌, ℕ, ◌+◌, ◌-◌, ◌<◌, eqb, List, [], ◌∷◌, ◌++◌, length, sym, refl, subst, ⊎_elim, append_assoc, append-nil, arith}
use Rattle.std.proofs.ByRecursion.{All-push}
use Rattle.std.proofs.lemmas.Bool.{eqb-true, eqb-false, cond-true, cond-false, cases_Bool}
use Rattle.std.proofs.lemmas.List.{length-append}
use Rattle.reader.proofs.First.{fed}
use Rattle.reader.specs.Lines.{NoFeed, last, last_line, less_return, lines, lines_from}
use Rattle.reader.specs.Cut.{Cut, none, more, LinesCut}

end : (p : ℕ) (line : List ℕ) → NoFeed line → Cut p line (last_line p line)
end p [] h = none
end p (b ∷ bs) h = more (omega arith) (last h) none

from : (p : ℕ) (text line : List ℕ) → NoFeed line → Cut p (line ++ text) (lines_from p line text)
from p [] line h = subst (λ l. Cut p l (last_line p line)) (sym (append-nil line)) (end p line h)
from p (b ∷ bs) line h =
    ⊎_elim
    (λ is.
    let ten = eqb-true b 10 is in
    let some : 0 < length (line ++ 10 ∷ bs) = omega (arith, length-append line (10 ∷ bs)) in
    let on : p + length line + 1 ≡ p + (length (line ++ 10 ∷ bs) - length bs) = omega (arith, length-append line (10 ∷ bs)) in
    subst (λ ls. Cut p (line ++ b ∷ bs) ls) (sym (cond-true (eqb b 10) ((p, less_return line) ∷ lines_from (p + length line + 1) [] bs) (lines_from p (line ++ b ∷ []) bs) is))
    (subst (λ x. Cut p (line ++ x ∷ bs) ((p, less_return line) ∷ lines_from (p + length line + 1) [] bs)) (sym ten)
    (more some (fed line bs h) (subst (λ q. Cut q bs (lines_from (p + length line + 1) [] bs)) on (from (p + length line + 1) bs [] tt)))))
    (λ is.
    subst (λ ls. Cut p (line ++ b ∷ bs) ls) (sym (cond-false (eqb b 10) ((p, less_return line) ∷ lines_from (p + length line + 1) [] bs) (lines_from p (line ++ b ∷ []) bs) is))
    (subst (λ l. Cut p l (lines_from p (line ++ b ∷ []) bs)) (append_assoc line (b ∷ []) bs) (from p bs (line ++ b ∷ []) (All-push (λ x. x ≡ 10 → ⊥) line b h (eqb-false b 10 is)))))
    (cases_Bool (eqb b 10))

pub lines_cut : LinesCut
lines_cut text = from 0 text [] tt

uncut : {p : ℕ} {text : List ℕ} → Cut p text [] → text ≡ []
uncut none = refl

-- only the empty text has no line
pub no_lines : (text : List ℕ) → lines text ≡ [] → text ≡ []
no_lines text e = uncut (subst (λ ls. Cut 0 text ls) e (lines_cut text))
