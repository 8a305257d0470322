-- Lines that add nothing to a text.
use Rattle.std.proofs.Common.{◌≡◌, ℕ, Bool, true, false, cond, List, [], ◌∷◌, ◌++◌, length, sym, refl, ap, ◌∙◌, append-nil}
use Rattle.std.specs.List.{AllByRecursion}
use Rattle.std.proofs.lemmas.Bool.{true≢false}
use Rattle.reader.specs.Kinds.{kind_of, is_continuation}
use Rattle.reader.specs.Lines.{Piece, lines}
use Rattle.reader.specs.declared.kind.LineKind.{LineKind}
use Rattle.reader.specs.declared.kind.LineKind.TheVariants.{Opening, Continuation, End, Dotted, Other}
use Rattle.refusals.specs.declared.MessageRefusal.TheVariants as why
use Rattle.refusals.specs.declared.Refusal.TheVariants.{Message}
use Rattle.terms.specs.Standing.{Standing}
use Rattle.events.specs.Events.{Event, refused}
use Rattle.events.specs.Room.{refusals}
use Rattle.daylight.specs.Settings.{Setting}
use Rattle.messages.specs.Models.{Common, Reached}
use Rattle.stages.specs.Stages.{Stage, outside, skipping, header, onto, is_table, in_body, by_kind, next, came, within}
use Rattle.shef.specs.Texts.{is_opening, Stretch, on_front, cut, end_of, stretch, stretches, to_come, events}
use Rattle.laws.specs.Outside.{NoOpening, NoContinuation, Continues, alone, LinesOutside}
use Rattle.laws.proofs.Runs.{came_runs, behind_refused}

pass_one : (S : Setting) (l : Piece) (k : LineKind) (rest : Stage → List Event) → is_opening k ≡ false → is_continuation k ≡ false → came S (by_kind S outside l k) rest ≡ rest outside
pass_one S l (Opening f v) rest h c = absurd (true≢false h)
pass_one S l (Continuation f v) rest h c = absurd (true≢false c)
pass_one S l End rest h c = refl
pass_one S l Dotted rest h c = refl
pass_one S l Other rest h c = refl

skip_one : (S : Setting) (l : Piece) (k : LineKind) (rest : Stage → List Event) → is_opening k ≡ false → came S (by_kind S skipping l k) rest ≡ rest skipping
skip_one S l (Opening f v) rest h = absurd (true≢false h)
skip_one S l (Continuation f v) rest h = refl
skip_one S l End rest h = refl
skip_one S l Dotted rest h = refl
skip_one S l Other rest h = refl

pub between : (S : Setting) (e : ℕ) (ls : List Piece) → AllByRecursion NoOpening ls → AllByRecursion NoContinuation ls → within S e outside ls ≡ []
between S e [] hs cs = refl
between S e (l ∷ ls) hs cs = pass_one S l (kind_of l.1) (λ τ. within S e τ ls) hs.0 cs.0 ∙ between S e ls hs.1 cs.1

pub skipped : (S : Setting) (e : ℕ) (ls : List Piece) → AllByRecursion NoOpening ls → within S e skipping ls ≡ []
skipped S e [] hs = refl
skipped S e (l ∷ ls) hs = skip_one S l (kind_of l.1) (λ τ. within S e τ ls) hs.0 ∙ skipped S e ls hs.1

late_one : (S : Setting) (c : Piece) (k : LineKind) (rest : Stage → List Event) → is_continuation k ≡ true → came S (by_kind S outside c k) rest ≡ refused (Message why.Continuation) c.0 ∷ []
late_one S c (Opening f v) rest h = absurd (true≢false (sym h))
late_one S c (Continuation f v) rest h = refl
late_one S c End rest h = absurd (true≢false (sym h))
late_one S c Dotted rest h = absurd (true≢false (sym h))
late_one S c Other rest h = absurd (true≢false (sym h))

late_outside : (S : Setting) (e : ℕ) (ls : List Piece) (c : Piece) (more : List Piece) → AllByRecursion NoOpening ls → AllByRecursion NoContinuation ls → Continues c
    → within S e outside (ls ++ c ∷ more) ≡ refused (Message why.Continuation) c.0 ∷ []
late_outside S e [] c more hs cs h = late_one S c (kind_of c.1) (λ τ. within S e τ more) h
late_outside S e (l ∷ ls) c more hs cs h = pass_one S l (kind_of l.1) (λ τ. within S e τ (ls ++ c ∷ more)) hs.0 cs.0 ∙ late_outside S e ls c more hs.1 cs.1 h

-- behind a message that is no table
module _ (S : Setting) (e : ℕ) (m : Common) (t : Standing) (p : Reached) (n : ℕ) (hs : List Piece) (is : is_table m.form ≡ false) where
  leaves : (l : Piece) (k : LineKind) (rest : Stage → List Event) → came S (cond (is_table m.form) (in_body m t hs l k) (onto outside)) rest ≡ rest outside
  leaves l k rest = ap (λ b. came S (cond b (in_body m t hs l k) (onto outside)) rest) is

  end_one : (l : Piece) (k : LineKind) (rest : Stage → List Event) → is_opening k ≡ false → is_continuation k ≡ false → came S (by_kind S (header m t p n hs) l k) rest ≡ rest outside
  end_one l (Opening f v) rest h c = absurd (true≢false h)
  end_one l (Continuation f v) rest h c = absurd (true≢false c)
  end_one l End rest h c = leaves l End rest
  end_one l Dotted rest h c = leaves l Dotted rest
  end_one l Other rest h c = leaves l Other rest

  pub ending : (ls : List Piece) → AllByRecursion NoOpening ls → AllByRecursion NoContinuation ls → within S e (header m t p n hs) ls ≡ []
  ending [] os cs = ap (λ b. cond b (refused (Message why.Unfinished) e ∷ []) []) is
  ending (l ∷ ls) os cs = end_one l (kind_of l.1) (λ τ. within S e τ ls) os.0 cs.0 ∙ between S e ls os.1 cs.1

  late : (l : Piece) (ls : List Piece) (c : Piece) (more : List Piece) → AllByRecursion NoOpening (l ∷ ls) → AllByRecursion NoContinuation (l ∷ ls) → Continues c
      → within S e (header m t p n hs) (l ∷ ls ++ c ∷ more) ≡ refused (Message why.Continuation) c.0 ∷ []
  late l ls c more os cs h = end_one l (kind_of l.1) (λ τ. within S e τ (ls ++ c ∷ more)) os.0 cs.0 ∙ late_outside S e ls c more os.1 cs.1 h

behind : (S : Setting) (e : ℕ) (σ : Stage) (l : Piece) (ls : List Piece) → (refusals (alone S σ l) ≡ [] → ⊥) → within S e σ (l ∷ ls) ≡ alone S σ l
behind S e σ l ls some = behind_refused (came_runs S (next S σ l)) some (λ τ. within S e τ ls)

-- what a text comes to by its parts
abbrev by_parts : Setting → ℕ → List Piece × List Stretch → List Event
by_parts S e c = within S (end_of e c.1) outside c.0 ++ stretches S e c.1

pub front : (S : Setting) (e : ℕ) (ls more : List Piece) → AllByRecursion NoOpening ls → AllByRecursion NoContinuation ls → to_come S e outside (ls ++ more) ≡ to_come S e outside more
front S e [] more hs cs = refl
front S e (l ∷ ls) more hs cs =
    let c = cut (ls ++ more) in
    ap (λ b. by_parts S e (on_front b l c)) hs.0
    ∙ ap (λ es. es ++ stretches S e c.1) (pass_one S l (kind_of l.1) (λ τ. within S (end_of e c.1) τ c.0) hs.0 cs.0)
    ∙ front S e ls more hs.1 cs.1

-- no opening stands before the first
before_one : (l : Piece) (b : Bool) (c : List Piece × List Stretch) → is_opening (kind_of l.1) ≡ b → AllByRecursion NoOpening c.0 → AllByRecursion NoOpening (on_front b l c).0
before_one l true c e h = tt
before_one l false c e h = (e, h)

pub before : (ls : List Piece) → AllByRecursion NoOpening (cut ls).0
before [] = tt
before (l ∷ ls) = before_one l (is_opening (kind_of l.1)) (cut ls) refl (before ls)

preface : (S : Setting) (text : List ℕ) → AllByRecursion NoContinuation (cut (lines text)).0 → events S text ≡ stretches S (length text) (cut (lines text)).1
preface S text cs =
    let c = cut (lines text) in
    ap (λ es. es ++ stretches S (length text) c.1) (between S (end_of (length text) c.1) c.0 (before (lines text)) cs)

pub nothing : (S : Setting) (text : List ℕ) → AllByRecursion NoOpening (lines text) → AllByRecursion NoContinuation (lines text) → events S text ≡ []
nothing S text hs cs = ap (to_come S (length text) outside) (sym (append-nil (lines text))) ∙ front S (length text) (lines text) [] hs cs

-- lines of which at most the first is an opening
pub cut_none : (ls : List Piece) → AllByRecursion NoOpening ls → cut ls ≡ (ls, [])
cut_none [] hs = refl
cut_none (l ∷ ls) hs = ap (λ b. on_front b l (cut ls)) hs.0 ∙ ap (on_front false l) (cut_none ls hs.1)

module _ (S : Setting) (text : List ℕ) (l : Piece) (ls : List Piece) (is : lines text ≡ l ∷ ls) (hs : AllByRecursion NoOpening ls) where
  pub one_stretch : is_opening (kind_of l.1) ≡ true → events S text ≡ stretch S (length text) (l, ls)
  one_stretch h =
      ap (to_come S (length text) outside) is
      ∙ ap (by_parts S (length text)) (ap (λ b. on_front b l (cut ls)) h ∙ ap (on_front true l) (cut_none ls hs))
      ∙ append-nil (stretch S (length text) (l, ls))

  pub no_stretch : is_opening (kind_of l.1) ≡ false → events S text ≡ within S (length text) outside (l ∷ ls)
  no_stretch h = ap (to_come S (length text) outside) is ∙ ap (by_parts S (length text)) (cut_none (l ∷ ls) (h, hs)) ∙ append-nil (within S (length text) outside (l ∷ ls))

pub lines_outside : LinesOutside
lines_outside = record {
  between = between;
  ending = λ S e m t p n hs ls is os cs. ending S e m t p n hs is ls os cs;
  late = λ S e m t p n hs l ls c more is os cs h. late S e m t p n hs is l ls c more os cs h;
  skipped = skipped;
  behind = behind;
  front = front;
  preface = preface;
  nothing = nothing;
}
