-- The parts of a body line come in the order of the rule. Assumes nothing.
use Rattle.std.proofs.Common.{◌≡◌, List, [], ◌∷◌, ◌++◌, map, refl, ap, ◌∙◌, sym, subst, ⊎_elim, append-nil}
use Rattle.merging.specs.Merging.{Sided, answered, from_header, is_d, of_header, of_line}
use Rattle.merging.specs.Order.{InOrder, IsD, NoD, PartsInOrder, codeless, ended, used}
use Rattle.reader.specs.Lines.{Piece}
use Rattle.std.proofs.lemmas.Bool.{cases_Bool, cond-false, cond-true}
use Rattle.std.specs.List.{AllByRecursion}

-- the header's D items come first
header-ds : (ds hs ls : List Piece) → AllByRecursion IsD ds → from_header (ds ++ hs) ls ≡ map of_header ds ++ from_header hs ls
header-ds [] hs ls h = refl
header-ds (d ∷ ds) hs ls h = ap (λ k. of_header d ∷ k) (cond-true _ _ _ h.0 ∙ header-ds ds hs ls h.1)

at_code : (c : Piece) (hs ls : List Piece) → NoD c → from_header (c ∷ hs) ls ≡ of_header c ∷ answered (from_header hs) ls
at_code c hs ls n = ap (λ k. of_header c ∷ k) (cond-false _ _ _ n)

-- while a code waits, so do the line's
line-ds : (next : List Piece → List Sided) (es ls : List Piece) → AllByRecursion IsD es → answered next (es ++ ls) ≡ map of_line es ++ answered next ls
line-ds next [] ls h = refl
line-ds next (e ∷ es) ls h = ap (λ k. of_line e ∷ k) (cond-true _ _ _ h.0 ∙ line-ds next es ls h.1)

all-ds : (next : List Piece → List Sided) (es : List Piece) → AllByRecursion IsD es → answered next es ≡ map of_line es
all-ds next [] h = refl
all-ds next (e ∷ es) h = ap (λ k. of_line e ∷ k) (cond-true _ _ _ h.0 ∙ all-ds next es h.1)

only : (hs ls : List Piece) (ps : List Sided) → InOrder hs ls ps → from_header hs ls ≡ ps
only _ _ _ (codeless {ds = ds} ls g) = ap (λ k. from_header k ls) (sym (append-nil ds)) ∙ header-ds ds [] ls g
only _ _ _ (ended ds c more {es = es} g n h) =
    header-ds ds (c ∷ more) es g ∙ ap (λ k. map of_header ds ++ k) (at_code c more es n ∙ ap (λ k. of_header c ∷ k) (all-ds (from_header more) es h))
only _ _ _ (used ds c {hs = more} es v {ls = rest} {ps = qs} g n h m w) =
    header-ds ds (c ∷ more) (es ++ v ∷ rest) g
    ∙ ap (λ k. map of_header ds ++ k)
    (at_code c more (es ++ v ∷ rest) n
    ∙ ap (λ k. of_header c ∷ k)
    (line-ds (from_header more) es (v ∷ rest) h
    ∙ ap (λ k. map of_line es ++ of_line v ∷ k) (cond-false _ _ _ m ∙ only more rest qs w)))

-- one D item of the header more
more_header : (d : Piece) {hs ls : List Piece} {ps : List Sided} → IsD d → InOrder hs ls ps → InOrder (d ∷ hs) ls (of_header d ∷ ps)
more_header d is (codeless {ds = ds} ls g) = codeless {ds = d ∷ ds} ls (is, g)
more_header d is (ended ds c hs g n h) = ended (d ∷ ds) c hs (is, g) n h
more_header d is (used ds c es v g n h m w) = used (d ∷ ds) c es v (is, g) n h m w

-- how a line answers a code that waits
data Answer (next : List Piece → List Sided) : List Piece → List Sided → Type 0 where
  none : {es : List Piece} → AllByRecursion IsD es → Answer next es (map of_line es)
  one : (es : List Piece) (v : Piece) (ls : List Piece) → AllByRecursion IsD es → NoD v → Answer next (es ++ v ∷ ls) (map of_line es ++ of_line v ∷ next ls)

more_line : (next : List Piece → List Sided) (e : Piece) {ls : List Piece} {ps : List Sided} → IsD e → Answer next ls ps → Answer next (e ∷ ls) (of_line e ∷ ps)
more_line next e is (none {es = es} h) = none {es = e ∷ es} (is, h)
more_line next e is (one es v ls h m) = one (e ∷ es) v ls (is, h) m

answer : (next : List Piece → List Sided) (ls : List Piece) → Answer next ls (answered next ls)
answer next [] = none tt
answer next (l ∷ ls) =
    ⊎_elim
    (λ is. subst (λ k. Answer next (l ∷ ls) (of_line l ∷ k)) (sym (cond-true (is_d l.1) (answered next ls) (next ls) is)) (more_line next l is (answer next ls)))
    (λ no. subst (λ k. Answer next (l ∷ ls) (of_line l ∷ k)) (sym (cond-false (is_d l.1) (answered next ls) (next ls) no)) (one [] l ls tt no))
    (cases_Bool (is_d l.1))

code : (c : Piece) (hs : List Piece) → NoD c → ((ls : List Piece) → InOrder hs ls (from_header hs ls)) → {ls : List Piece} {ps : List Sided} → Answer (from_header hs) ls ps → InOrder (c ∷ hs) ls (of_header c ∷ ps)
code c hs n w (none h) = ended [] c hs tt n h
code c hs n w (one es v ls h m) = used [] c es v tt n h m (w ls)

ordered : (hs ls : List Piece) → InOrder hs ls (from_header hs ls)
ordered [] ls = codeless ls tt
ordered (h ∷ hs) ls =
    ⊎_elim
    (λ is. subst (λ k. InOrder (h ∷ hs) ls (of_header h ∷ k)) (sym (cond-true (is_d h.1) (from_header hs ls) (answered (from_header hs) ls) is)) (more_header h is (ordered hs ls)))
    (λ no. subst (λ k. InOrder (h ∷ hs) ls (of_header h ∷ k)) (sym (cond-false (is_d h.1) (from_header hs ls) (answered (from_header hs) ls) no)) (code h hs no (ordered hs) (answer (from_header hs) ls)))
    (cases_Bool (is_d h.1))

pub parts_in_order : PartsInOrder
parts_in_order = record { ordered = ordered; only = only }
