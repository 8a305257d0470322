-- Moves are read as they are written. Assumes nothing.
use Rattle.std.proofs.Common.{◌≡◌, ℕ, ◌+◌, ◌-◌, ◌*◌, ◌<◌, Bool, true, false, cond, ◌&&◌, ◌||◌, ◌==◌, leb, eqb, List, [], ◌∷◌, ◌++◌, ℤ, Some, None, refl, sym, ap, ◌∙◌, subst, ⊎_elim, arith}
use Rattle.std.specs.Option.{option_map}
use Rattle.std.proofs.lemmas.Bool.{and_parts, and_from, leb-true, le-leb, eqb-true, cond-true, cond-false, cases_Bool, false_from_ne_true}
use Rattle.std.proofs.lemmas.Option.{none-some}
use Rattle.text.specs.Signs.{digit}
use Rattle.instants.specs.declared.moves.Move.{Move}
use Rattle.instants.specs.declared.moves.Unit.{Unit as MoveUnit}
use Rattle.instants.specs.declared.moves.Unit.TheVariants.{Second, Minute, Hour, Day, Month, Year, MonthEnd}
use Rattle.calendar.proofs.Ways.{then_some}
use Rattle.ditems.specs.Moves.{unit_of, figures, is_back, less_sign, directed, count_of, move_by, move_of}
use Rattle.ditems.specs.MoveLaws.{letter_of, Figures, one, two, Counted, bare, plus, minus, MoveWritten, written, MovesAsWritten}
use Rattle.ditems.proofs.Somes.{mapped_some, when-some, one_of}

-- a digit by its number

is_digit : (d : ℕ) → d < 10 → digit (48 + d) ≡ true
is_digit d lt = and_from (leb 48 (48 + d)) (leb (48 + d) 57) (le-leb 48 (48 + d) (omega arith)) (le-leb (48 + d) 57 (omega (arith, lt)))

less_base : (d : ℕ) → 48 + d - 48 ≡ d
less_base d = omega arith

-- what a digit's code says
by_digit : (a : ℕ) → digit a ≡ true → (48 + (a - 48) ≡ a) × (a - 48 < 10)
by_digit a t =
    let p = and_parts (leb 48 a) (leb a 57) t in
    let low = leb-true 48 a p.0 in
    let high = leb-true a 57 p.1 in
    (omega (arith, low), omega (arith, low, high))

not_eq : (a b : ℕ) → (a ≡ b → ⊥) → eqb a b ≡ false
not_eq a b n = false_from_ne_true (eqb a b) (λ e. n (eqb-true a b e))

-- figures

pub figures_read : {ds : List ℕ} {n : ℕ} → Figures ds n → figures ds ≡ Some n
figures_read (one d lt) = cond-true _ _ _ (is_digit d lt) ∙ ap Some (less_base d)
figures_read (two t d ht hd) =
    cond-true _ _ _ (and_from _ _ (is_digit t ht) (is_digit d hd))
    ∙ ap (λ (k : ℕ). Some (k * 10 + (48 + d - 48))) (less_base t)
    ∙ ap (λ (k : ℕ). Some (t * 10 + k)) (less_base d)

pub figures_written : (ds : List ℕ) (n : ℕ) → figures ds ≡ Some n → Figures ds n
figures_written [] n e = absurd (none-some n e)
figures_written (a ∷ []) n e =
    let p = when-some (digit a) (a - 48) n e in
    let q = by_digit a p.0 in
    subst (Figures (a ∷ [])) p.1 (subst (λ (x : ℕ). Figures (x ∷ []) (a - 48)) q.0 (one (a - 48) q.1))
figures_written (a ∷ b ∷ []) n e =
    let p = when-some (digit a && digit b) ((a - 48) * 10 + (b - 48)) n e in
    let d = and_parts (digit a) (digit b) p.0 in
    let q = by_digit a d.0 in
    let r = by_digit b d.1 in
    let both = two (a - 48) (b - 48) q.1 r.1 in
    let first = subst (λ (x : ℕ). Figures (x ∷ (48 + (b - 48)) ∷ []) ((a - 48) * 10 + (b - 48))) q.0 both in
    subst (Figures (a ∷ b ∷ [])) p.1 (subst (λ (y : ℕ). Figures (a ∷ y ∷ []) ((a - 48) * 10 + (b - 48))) r.0 first)
figures_written (a ∷ b ∷ c ∷ rest) n e = absurd (none-some n e)

-- no sign stands before figures
not_back : {ds : List ℕ} {n : ℕ} → Figures ds n → is_back ds ≡ false
not_back (one d lt) = not_eq (48 + d) 45 (λ e. absurd (omega (arith, e)))
not_back (two t d ht hd) = not_eq (48 + t) 45 (λ e. absurd (omega (arith, e)))

no_sign : (d : ℕ) → ((48 + d == 45) || (48 + d == 43)) ≡ false
no_sign d =
    ap (λ (t : Bool). t || eqb (48 + d) 43) (not_eq (48 + d) 45 (λ e. absurd (omega (arith, e))))
    ∙ not_eq (48 + d) 43 (λ e. absurd (omega (arith, e)))

no_less : {ds : List ℕ} {n : ℕ} → Figures ds n → less_sign ds ≡ ds
no_less (one d lt) = cond-false _ _ _ (no_sign d)
no_less (two t d ht hd) = cond-false _ _ _ (no_sign t)

-- counts

count_read : {cs : List ℕ} {z : ℤ} → Counted cs z → count_of cs ≡ Some z
unfolding count_of
count_read (bare {ds} {n} f) =
    ap (λ (b : Bool). option_map (directed b) (figures (less_sign ds))) (not_back f)
    ∙ ap (λ (l : List ℕ). option_map (directed false) (figures l)) (no_less f)
    ∙ ap (option_map (directed false)) (figures_read f)
count_read (plus f) = ap (option_map (directed false)) (figures_read f)
count_read (minus f) = ap (option_map (directed true)) (figures_read f)

count_written : (cs : List ℕ) (z : ℤ) → count_of cs ≡ Some z → Counted cs z
unfolding count_of
count_written [] z e = absurd (none-some z e)
count_written (c ∷ rest) z e =
    ⊎_elim
    (λ back.
    let is : c ≡ 45 = eqb-true c 45 back in
    subst (λ (x : ℕ). Counted (x ∷ rest) z) (sym is) (by_minus (subst (λ (x : ℕ). count_of (x ∷ rest) ≡ Some z) is e)))
    (λ on. ⊎_elim
    (λ fore.
    let is : c ≡ 43 = eqb-true c 43 fore in
    subst (λ (x : ℕ). Counted (x ∷ rest) z) (sym is) (by_plus (subst (λ (x : ℕ). count_of (x ∷ rest) ≡ Some z) is e)))
    (λ off. by_none on off)
    (cases_Bool (eqb c 43)))
    (cases_Bool (eqb c 45))
  where
    by_minus : count_of (45 ∷ rest) ≡ Some z → Counted (45 ∷ rest) z
    by_minus h = let p = mapped_some (directed true) (figures rest) z h in subst (Counted (45 ∷ rest)) p.2 (minus (figures_written rest p.0 p.1))

    by_plus : count_of (43 ∷ rest) ≡ Some z → Counted (43 ∷ rest) z
    by_plus h = let p = mapped_some (directed false) (figures rest) z h in subst (Counted (43 ∷ rest)) p.2 (plus (figures_written rest p.0 p.1))

    by_none : eqb c 45 ≡ false → eqb c 43 ≡ false → Counted (c ∷ rest) z
    by_none on off =
        let plain : less_sign (c ∷ rest) ≡ c ∷ rest = ap (λ (t : Bool). cond (t || eqb c 43) rest (c ∷ rest)) on ∙ ap (λ (t : Bool). cond t rest (c ∷ rest)) off in
        let same = ap (λ (l : List ℕ). option_map (directed false) (figures l)) (sym plain) ∙ ap (λ (t : Bool). option_map (directed t) (figures (less_sign (c ∷ rest)))) (sym on) in
        let p = mapped_some (directed false) (figures (c ∷ rest)) z (same ∙ e) in
        subst (Counted (c ∷ rest)) p.2 (bare (figures_written (c ∷ rest) p.0 p.1))

-- units

letter_written : (b : ℕ) (u : MoveUnit) → unit_of b ≡ Some u → b ∷ [] ≡ letter_of u
letter_written b u =
    let at : (k : ℕ) (v : MoveUnit) → k ∷ [] ≡ letter_of v → b ≡ k → b ∷ [] ≡ letter_of v = λ k v is e. ap (λ (x : ℕ). x ∷ []) e ∙ is in
    let step = one_of (λ (v : MoveUnit). b ∷ [] ≡ letter_of v) b in
    step 83 Second u _ (at 83 Second refl)
    (step 78 Minute u _ (at 78 Minute refl)
    (step 72 Hour u _ (at 72 Hour refl)
    (step 68 Day u _ (at 68 Day refl)
    (step 77 Month u _ (at 77 Month refl)
    (step 89 Year u _ (at 89 Year refl)
    (step 69 MonthEnd u None (at 69 MonthEnd refl) (λ e. absurd (none-some u e))))))))

-- moves

move_known : (unit : MoveUnit) (cs : List ℕ) (z : ℤ) → count_of cs ≡ Some z → move_of (letter_of unit ++ cs) ≡ Some (move_by unit z)
unfolding move_of
move_known Second cs z e = ap (option_map (move_by Second)) e
move_known Minute cs z e = ap (option_map (move_by Minute)) e
move_known Hour cs z e = ap (option_map (move_by Hour)) e
move_known Day cs z e = ap (option_map (move_by Day)) e
move_known Month cs z e = ap (option_map (move_by Month)) e
move_known Year cs z e = ap (option_map (move_by Year)) e
move_known MonthEnd cs z e = ap (option_map (move_by MonthEnd)) e

reads : {text : List ℕ} {move : Move} → MoveWritten text move → move_of text ≡ Some move
reads (written unit {cs} {count} c) = move_known unit cs count (count_read c)

only : (text : List ℕ) (move : Move) → move_of text ≡ Some move → MoveWritten text move
unfolding move_of
only [] move e = absurd (none-some move e)
only (letter ∷ rest) move e =
    let p = then_some (unit_of letter) (λ u. option_map (move_by u) (count_of rest)) move e in
    let q = mapped_some (move_by p.0) (count_of rest) move p.2 in
    let w = written p.0 (count_written rest q.0 q.1) in
    let front : letter_of p.0 ++ rest ≡ letter ∷ rest = ap (λ (l : List ℕ). l ++ rest) (sym (letter_written letter p.0 p.1)) in
    subst (λ (l : List ℕ). MoveWritten l move) front (subst (MoveWritten (letter_of p.0 ++ rest)) q.2 w)

pub as_written : MovesAsWritten
as_written text move = (only text move, reads)
