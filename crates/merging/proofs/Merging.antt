-- Merging keeps the items of both sides. Assumes nothing.
use Rattle.std.proofs.Common.{◌≡◌, true, false, cond, List, [], ◌∷◌, ◌++◌, map, refl, ap}
use Rattle.merging.specs.Merging.{MergedKeeps, Sided, answered, from_header, head_items, is_d, of_header, of_line, own_items}
use Rattle.reader.specs.Lines.{Piece}

own_all : (ls : List Piece) → own_items (map of_line ls) ≡ ls
own_all [] = refl
own_all (l ∷ ls) = ap (λ k. l ∷ k) (own_all ls)

head_none : (ls : List Piece) → head_items (map of_line ls) ≡ []
head_none [] = refl
head_none (l ∷ ls) = head_none ls

own_answered : (next : List Piece → List Sided) → ((ls : List Piece) → own_items (next ls) ≡ ls) → (ls : List Piece) → own_items (answered next ls) ≡ ls
own_answered next h [] = refl
own_answered next h (l ∷ ls) = ap (λ k. l ∷ k) (elim (is_d l.1) as (λ v. own_items (cond v (answered next ls) (next ls)) ≡ ls) [ true ↦ own_answered next h ls | false ↦ h ls ])

own : (hs ls : List Piece) → own_items (from_header hs ls) ≡ ls
own [] ls = own_all ls
own (h ∷ hs) ls = elim (is_d h.1) as (λ v. own_items (cond v (from_header hs ls) (answered (from_header hs) ls)) ≡ ls) [ true ↦ own hs ls | false ↦ own_answered (from_header hs) (own hs) ls ]

abbrev Begins : List Piece → List Sided → Type 0
Begins hs ps = (rest : List Piece) × (head_items ps ++ rest ≡ hs)

begins-answered : (hs : List Piece) (next : List Piece → List Sided) → ((ls : List Piece) → Begins hs (next ls)) → (ls : List Piece) → Begins hs (answered next ls)
begins-answered hs next h [] = (hs, refl)
begins-answered hs next h (l ∷ ls) = elim (is_d l.1) as (λ v. Begins hs (cond v (answered next ls) (next ls))) [ true ↦ begins-answered hs next h ls | false ↦ h ls ]

after : (h : Piece) (hs : List Piece) (ps : List Sided) → Begins hs ps → Begins (h ∷ hs) (of_header h ∷ ps)
after h hs ps b = (b.0, ap (λ k. h ∷ k) b.1)

begins : (hs ls : List Piece) → Begins hs (from_header hs ls)
begins [] ls = ([], ap (λ k. k ++ []) (head_none ls))
begins (h ∷ hs) ls = after h hs (cond (is_d h.1) (from_header hs ls) (answered (from_header hs) ls)) (elim (is_d h.1) as (λ v. Begins hs (cond v (from_header hs ls) (answered (from_header hs) ls))) [ true ↦ begins hs ls | false ↦ begins-answered hs (from_header hs) (begins hs) ls ])

pub merged_keeps : MergedKeeps
merged_keeps hs ls = (own hs ls, begins hs ls)
