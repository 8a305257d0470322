-- The columns of a line are the fields of its entry.
use Rattle.std.proofs.Common.{◌≡◌, ℕ, suc, ◌+◌, List, [], ◌∷◌, ◌++◌, length, get_or, take, drop, sym, refl, ap, ◌∙◌, arith, length-append}
use Rattle.std.proofs.lemmas.List.{take_at, drop_at, drop-drop, get_or-drop}
use Rattle.std.specs.Option.{option_map}
use Rattle.values.specs.Writing.{digits, written}
use Rattle.record.specs.Entries.{Entry}
use Rattle.record.specs.Validity.{Valid}
use Rattle.line.specs.Lines.{second_text, minute_text, or_blank, revision_sign, series_sign, fields, spaced, line}
use Rattle.line.proofs.Widths.{station_long, code_long, value_long, created_long, source_long}

-- columns of given widths, from a place on, with one column between them
abbrev pub cut : ℕ → List ℕ → List ℕ → List (List ℕ)
cut at [] l = []
cut at (w ∷ ws) l = take w (drop at l) ∷ cut (at + suc w) ws l

abbrev Wide : List (List ℕ) → List ℕ → Type 0
Wide [] [] = Unit {0}
Wide [] (w ∷ ws) = ⊥
Wide (f ∷ fs) [] = ⊥
Wide (f ∷ fs) (w ∷ ws) = (length f ≡ w) × Wide fs ws

cut-spaced : (at : ℕ) (ws : List ℕ) (fs : List (List ℕ)) (l : List ℕ) → Wide fs ws → drop at l ≡ spaced fs → cut at ws l ≡ fs
cut-spaced at [] [] l h e = refl
cut-spaced at (w ∷ ws) [] l h e = absurd h
cut-spaced at [] (f ∷ fs) l h e = absurd h
cut-spaced at (w ∷ []) (f ∷ []) l h e = λ i. (ap (take w) e ∙ take_at f (10 ∷ []) w h.0) i ∷ []
cut-spaced at (w ∷ x ∷ ws) (f ∷ []) l h e = absurd h.1
cut-spaced at (w ∷ []) (f ∷ g ∷ fs) l h e = absurd h.1
cut-spaced at (w ∷ x ∷ ws) (f ∷ g ∷ fs) l h e =
    let first : take w (drop at l) ≡ f = ap (take w) e ∙ take_at f (32 ∷ spaced (g ∷ fs)) w h.0 in
    let next : suc w ≡ w + 1 = omega arith in
    let rest : drop (at + suc w) l ≡ spaced (g ∷ fs) =
    sym (drop-drop (suc w) at l) ∙ ap (drop (suc w)) e ∙ ap (λ n. drop n (f ++ 32 ∷ spaced (g ∷ fs))) next ∙ sym (drop-drop 1 w (f ++ 32 ∷ spaced (g ∷ fs))) ∙ ap (drop 1) (drop_at f (32 ∷ spaced (g ∷ fs)) w h.0) in
    λ i. first i ∷ cut-spaced (at + suc w) (x ∷ ws) (g ∷ fs) l h.1 rest i

abbrev widths : List ℕ
widths = 8 ∷ 14 ∷ 12 ∷ 7 ∷ 4 ∷ 14 ∷ 1 ∷ 1 ∷ 1 ∷ 8 ∷ []

of_first : (m : List ℕ) (x : ℕ) → take 1 m ≡ x ∷ [] → get_or m 0 0 ≡ x
of_first [] x h = absurd (omega (arith, ap length h))
of_first (y ∷ ys) x h = ap (λ (k : List ℕ). get_or k 0 0) h

-- a column of one byte
one : (i : ℕ) (l : List ℕ) (x : ℕ) → take 1 (drop i l) ≡ x ∷ [] → get_or l i 0 ≡ x
one i l x e = let z : i + 0 ≡ i = omega arith in ap (λ n. get_or l n 0) (sym z) ∙ sym (get_or-drop i l 0 0) ∙ of_first (drop i l) x e

-- how long fields of given widths are
long : List ℕ → ℕ
long [] = 1
long (w ∷ []) = w + 1
long (w ∷ x ∷ ws) = w + suc (long (x ∷ ws))

spaced_long : (ws : List ℕ) (fs : List (List ℕ)) → Wide fs ws → length (spaced fs) ≡ long ws
unfolding long
spaced_long [] [] h = refl
spaced_long (w ∷ ws) [] h = absurd h
spaced_long [] (f ∷ fs) h = absurd h
spaced_long (w ∷ []) (f ∷ []) h = length-append f (10 ∷ []) ∙ ap (λ n. n + 1) h.0
spaced_long (w ∷ x ∷ ws) (f ∷ []) h = absurd h.1
spaced_long (w ∷ []) (f ∷ g ∷ fs) h = absurd h.1
spaced_long (w ∷ x ∷ ws) (f ∷ g ∷ fs) h =
    length-append f (32 ∷ spaced (g ∷ fs)) ∙ (λ i. h.0 i + suc (spaced_long (x ∷ ws) (g ∷ fs) h.1 i))

wide : (e : Entry) → Valid e → Wide (fields e) widths
wide e v =
    (station_long _ v.station, (refl, (created_long e.created, (code_long _ v.code, (refl, (value_long e.value, (refl, (refl, (refl, (source_long e.source v.source, tt))))))))))

pub line_long : (e : Entry) → Valid e → length (line e) ≡ 80
unfolding line long
line_long e v = spaced_long widths (fields e) (wide e v)

-- what stands in the columns of l
pub record Columns (e : Entry) (l : List ℕ) : Type 0 where
  pub station : take 8 (drop 0 l) ≡ e.station
  pub observed : take 14 (drop 9 l) ≡ second_text e.observed
  pub created : take 12 (drop 24 l) ≡ or_blank 12 (option_map minute_text e.created)
  pub code : take 7 (drop 37 l) ≡ e.code
  pub duration : take 4 (drop 45 l) ≡ digits 4 e.duration
  pub value : take 14 (drop 50 l) ≡ written e.value
  pub qualifier : get_or l 65 0 ≡ e.qualifier
  pub revised : get_or l 67 0 ≡ revision_sign e.revised
  pub series : get_or l 69 0 ≡ series_sign e.series
  pub source : take 8 (drop 71 l) ≡ or_blank 8 e.source

pub columns : (e : Entry) (l : List ℕ) → Valid e → line e ≡ l → Columns e l
unfolding line
columns e l v h =
    let all : cut 0 widths l ≡ fields e = cut-spaced 0 widths (fields e) l (wide e v) (sym h) in
    let at : (i : ℕ) → get_or (cut 0 widths l) i [] ≡ get_or (fields e) i [] = λ i. ap (λ (fs : List (List ℕ)). get_or fs i []) all in
    record {
      station = at 0;
      observed = at 1;
      created = at 2;
      code = at 3;
      duration = at 4;
      value = at 5;
      qualifier = one 65 l _ (at 6);
      revised = one 67 l _ (at 7);
      series = one 69 l _ (at 8);
      source = at 9;
    }
