-- Lines are cut at an opening. Assumes nothing.
use Rattle.std.proofs.Common.{◌≡◌, ℕ, true, false, List, [], ◌∷◌, ◌++◌, sym, refl, ap, ◌∙◌, append_assoc}
use Rattle.reader.specs.Kinds.{kind_of}
use Rattle.reader.specs.Lines.{Piece}
use Rattle.events.specs.Events.{Event}
use Rattle.daylight.specs.Settings.{Setting}
use Rattle.stages.specs.Stages.{Stage, outside, within}
use Rattle.shef.specs.Texts.{is_opening, Stretch, on_front, cut, end_of, stretch, stretches, to_come}

-- lines of which the first is an opening have no line before it
cut-opening : (l : Piece) (ls : List Piece) → is_opening (kind_of l.1) ≡ true → cut (l ∷ ls) ≡ ([], (l, (cut ls).0) ∷ (cut ls).1)
cut-opening l ls h = ap (λ b. on_front b l (cut ls)) h

cut_join : (xs ys : List Piece) (ss : List Stretch) → cut ys ≡ ([], ss) → cut (xs ++ ys) ≡ ((cut xs).0, (cut xs).1 ++ ss)
cut_join [] ys ss h = h
cut_join (x ∷ xs) ys ss h =
    ap (on_front (is_opening (kind_of x.1)) x) (cut_join xs ys ss h)
    ∙ elim (is_opening (kind_of x.1)) as (λ b. on_front b x ((cut xs).0, (cut xs).1 ++ ss) ≡ ((on_front b x (cut xs)).0, (on_front b x (cut xs)).1 ++ ss)) [ true ↦ refl | false ↦ refl ]

module _ (S : Setting) (e : ℕ) (s : Stretch) (ss : List Stretch) where
  end_join : (xs : List Stretch) → end_of e (xs ++ s ∷ ss) ≡ end_of s.0.0 xs
  end_join [] = refl
  end_join (x ∷ xs) = refl

  stretches_join : (xs : List Stretch) → stretches S e (xs ++ s ∷ ss) ≡ stretches S s.0.0 xs ++ stretches S e (s ∷ ss)
  stretches_join [] = refl
  stretches_join (x ∷ xs) =
      ap (λ d. stretch S d x ++ stretches S e (xs ++ s ∷ ss)) (end_join xs)
      ∙ ap (λ (es : List Event). stretch S (end_of s.0.0 xs) x ++ es) (stretches_join xs)
      ∙ sym (append_assoc (stretch S (end_of s.0.0 xs) x) (stretches S s.0.0 xs) (stretches S e (s ∷ ss)))

-- what comes of lines behind which an opening stands does not depend on what follows it
pub to_come_join : (S : Setting) (e : ℕ) (σ : Stage) (xs : List Piece) (l : Piece) (ls : List Piece) → is_opening (kind_of l.1) ≡ true
    → to_come S e σ (xs ++ l ∷ ls) ≡ to_come S l.0 σ xs ++ to_come S e outside (l ∷ ls)
to_come_join S e σ xs l ls h =
    let s : Stretch = (l, (cut ls).0) in
    let whole = cut_join xs (l ∷ ls) (s ∷ (cut ls).1) (cut-opening l ls h) in
    ap (λ (c : List Piece × List Stretch). within S (end_of e c.1) σ c.0 ++ stretches S e c.1) whole
    ∙ ap (λ d. within S d σ (cut xs).0 ++ stretches S e ((cut xs).1 ++ s ∷ (cut ls).1)) (end_join S e s (cut ls).1 (cut xs).1)
    ∙ ap (λ (es : List Event). within S (end_of l.0 (cut xs).1) σ (cut xs).0 ++ es) (stretches_join S e s (cut ls).1 (cut xs).1)
    ∙ sym (append_assoc (within S (end_of l.0 (cut xs).1) σ (cut xs).0) (stretches S l.0 (cut xs).1) (stretches S e (s ∷ (cut ls).1)))
    ∙ ap (λ (c : List Piece × List Stretch). to_come S l.0 σ xs ++ (within S (end_of e c.1) outside c.0 ++ stretches S e c.1)) (sym (cut-opening l ls h))
