-- Lines one after another say which entries they are of.
use Rattle.std.proofs.Common.{◌≡◌, ℕ, zero, suc, ◌+◌, ◌*◌, ◌<◌, List, [], ◌∷◌, ◌++◌, length, get_or, take, drop, sym, refl, ap, ◌∙◌, append_assoc, arith}
use mathlib.Core.HLevel.{Unit-prop, ×_prop, is_prop→PathP}
use mathlib.Core.List.{is_set}
use native.Mathlib.Nat.{ℕ_set}
use Rattle.std.specs.List.{flat_map, AllByRecursion}
use Rattle.std.proofs.lemmas.List.{take_at, drop_at, drop-drop, take-append-drop}
use Rattle.record.specs.Entries.{Entry}
use Rattle.record.specs.Validity.{Valid}
use Rattle.record.proofs.Valid.{valid_prop}
use Rattle.line.specs.Lines.{line}
use Rattle.line.specs.Shown.{Shown}
use Rattle.line.specs.Laws.{OneReading}
use Rattle.line.proofs.Apart.{tells_apart}
use Rattle.line.proofs.Cut.{line_long}

pub same_entries : (xs ys : List Entry) → AllByRecursion Valid xs → AllByRecursion Valid ys → length xs ≡ length ys → flat_map line xs ≡ flat_map line ys → xs ≡ ys
same_entries [] [] v w n e = refl
same_entries [] (y ∷ ys) v w n e = absurd (omega arith)
same_entries (x ∷ xs) [] v w n e = absurd (omega arith)
same_entries (x ∷ xs) (y ∷ ys) v w n e =
    let a : line x ≡ line y = sym (take_at (line x) (flat_map line xs) 80 (line_long x v.0)) ∙ ap (take 80) e ∙ take_at (line y) (flat_map line ys) 80 (line_long y w.0) in
    let b : flat_map line xs ≡ flat_map line ys = sym (drop_at (line x) (flat_map line xs) 80 (line_long x v.0)) ∙ ap (drop 80) e ∙ drop_at (line y) (flat_map line ys) 80 (line_long y w.0) in
    let head : x ≡ y = tells_apart x y v.0 w.0 a in
    let tail : xs ≡ ys = same_entries xs ys v.1 w.1 (omega arith) b in
    λ i. head i ∷ tail i

pub one_reading : OneReading
one_reading bytes count s t = same_entries s.entries t.entries s.valid t.valid (s.many ∙ sym t.many) (sym s.text ∙ t.text)

all_prop : (xs : List Entry) → IsProp (AllByRecursion Valid xs)
all_prop [] = Unit-prop
all_prop (x ∷ xs) = ×_prop (valid_prop x) (all_prop xs)

-- there is one way to read the bytes
pub shown_prop : (bytes : List ℕ) (count : ℕ) → IsProp (Shown bytes count)
shown_prop bytes count s t =
    let same : s.entries ≡ t.entries = one_reading bytes count s t in
    λ i. record {
      entries = same i;
      valid = is_prop→PathP (λ j. AllByRecursion Valid (same j)) (λ j. all_prop (same j)) s.valid t.valid i;
      many = is_prop→PathP (λ j. length (same j) ≡ count) (λ j. ℕ_set (length (same j)) count) s.many t.many i;
      text = is_prop→PathP (λ j. take (80 * count) bytes ≡ flat_map line (same j)) (λ j. is_set ℕ_set (take (80 * count) bytes) (flat_map line (same j))) s.text t.text i;
    }

-- the line at a place
pub line_at : (es : List Entry) (rest : List ℕ) (i : ℕ) (d : Entry) → AllByRecursion Valid es → i < length es → take 80 (drop (80 * i) (flat_map line es ++ rest)) ≡ line (get_or es i d)
line_at [] rest i d v h = absurd (omega arith)
line_at (e ∷ es) rest zero d v h = ap (take 80) (append_assoc (line e) (flat_map line es) rest) ∙ take_at (line e) (flat_map line es ++ rest) 80 (line_long e v.0)
line_at (e ∷ es) rest (suc i) d v h =
    let at : 80 * suc i ≡ 80 + 80 * i = omega arith in
    ap (take 80) (
    ap (λ n. drop n (flat_map line (e ∷ es) ++ rest)) at ∙ sym (drop-drop (80 * i) 80 (flat_map line (e ∷ es) ++ rest))
    ∙ ap (drop (80 * i)) (ap (drop 80) (append_assoc (line e) (flat_map line es) rest) ∙ drop_at (line e) (flat_map line es ++ rest) 80 (line_long e v.0))
    ) ∙ line_at es rest i d v.1 (omega arith)

-- the line at a place of bytes that show entries
pub shown_at : (bytes : List ℕ) (count : ℕ) (s : Shown bytes count) (i : ℕ) (d : Entry) → i < count → take 80 (drop (80 * i) bytes) ≡ line (get_or s.entries i d)
shown_at bytes count s i d h =
    ap (λ l. take 80 (drop (80 * i) l)) (sym (take-append-drop (80 * count) bytes) ∙ ap (λ l. l ++ drop (80 * count) bytes) s.text)
    ∙ line_at s.entries (drop (80 * count) bytes) i d s.valid (omega (arith, s.many))

-- no lines show no entries
pub none_shown : (bytes : List ℕ) → ∥ Shown bytes 0 ∥₁
none_shown bytes = ∣ record { entries = []; valid = tt; many = refl; text = refl } ∣₁
