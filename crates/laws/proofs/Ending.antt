-- A refusal is the last event of its message.
use Rattle.std.proofs.Common.{◌≡◌, ℕ, ◌+◌, ◌≤◌, Bool, true, false, cond, List, [], ◌∷◌, ◌++◌, length, Some, None, Option, sym, refl, ap, ◌∙◌, subst, append_assoc, arith, length-append}
use Rattle.std.specs.List.{AllByRecursion}
use Rattle.std.proofs.lemmas.Bool.{true≢false}
use Rattle.reader.specs.Kinds.{kind_of}
use Rattle.reader.specs.Lines.{Piece, lines}
use Rattle.reader.specs.declared.kind.LineKind.{LineKind}
use Rattle.reader.specs.declared.kind.LineKind.TheVariants.{Opening, Continuation, End, Dotted, Other}
use Rattle.refusals.specs.declared.Fault.{Fault}
use Rattle.refusals.specs.declared.MessageRefusal.TheVariants as why
use Rattle.refusals.specs.declared.Refusal.TheVariants.{Message}
use Rattle.events.specs.Events.{Event, fault, refused, records}
use Rattle.events.specs.Passing.{logged_all}
use Rattle.events.specs.Room.{refusals}
use Rattle.events.proofs.Passes.{logged_append}
use Rattle.daylight.specs.Settings.{Setting}
use Rattle.stages.specs.Stages.{Stage, outside, skipping, header, body, is_table, by_kind, next, came, closing, within}
use Rattle.shef.specs.Texts.{is_opening, Stretch, cut, end_of, stretch, stretches, events}
use Rattle.laws.specs.Endings.{lastly, EndsOnce, OneRefusal}
use Rattle.laws.specs.Outside.{NoOpening}
use Rattle.laws.proofs.Idle.{before, one_stretch, no_stretch}
use Rattle.laws.proofs.Runs.{Runs, past, stopped, came_runs, refusals-behind, refusals-append}

ends_none : EndsOnce []
ends_none = record { logs = []; ending = None; is = refl }

ends_refused : (f : Fault) → EndsOnce (refused f.refusal f.place ∷ [])
ends_refused f = record { logs = []; ending = Some f; is = refl }

ends_closing : (σ : Stage) (e : ℕ) → EndsOnce (closing σ e)
ends_closing outside e = ends_none
ends_closing skipping e = ends_none
ends_closing (header m t p n hs) e = elim (is_table m.form) as (λ b. EndsOnce (cond b (refused (Message why.Unfinished) e ∷ []) [])) [ true ↦ ends_refused (fault (Message why.Unfinished) e) | false ↦ ends_none ]
ends_closing (body m t hs) e = ends_refused (fault (Message why.Unfinished) e)

ends_run : {Q : Type 0} {es : (Q → List Event) → List Event} → Runs es → (k : Q → List Event) → ((q : Q) → EndsOnce (k q)) → EndsOnce (es k)
ends_run (past xs q is) k h =
    let r = h q in
    record {
      logs = xs ++ r.logs;
      ending = r.ending;
      is = is k ∙ ap (λ t. logged_all xs ++ t) r.is ∙ sym (ap (λ t. t ++ lastly r.ending) (logged_append xs r.logs) ∙ append_assoc (logged_all xs) (logged_all r.logs) (lastly r.ending));
    }
ends_run (stopped xs f is) k h = record { logs = xs; ending = Some f; is = is k }

pub ends_within : (S : Setting) (e : ℕ) (σ : Stage) (ls : List Piece) → EndsOnce (within S e σ ls)
ends_within S e σ [] = ends_closing σ e
ends_within S e σ (l ∷ ls) = ends_run (came_runs S (next S σ l)) (λ τ. within S e τ ls) (λ τ. ends_within S e τ ls)

pub ends_stretch : (S : Setting) (e : ℕ) (s : Stretch) → EndsOnce (stretch S e s)
ends_stretch S e s = ends_run (came_runs S (next S outside s.0)) (λ τ. within S e τ s.1) (λ τ. ends_within S e τ s.1)

one_lastly : (o : Option Fault) → length (refusals (lastly o)) ≤ 1
one_lastly None = omega arith
one_lastly (Some f) = omega arith

one : {es : List Event} → EndsOnce es → length (refusals es) ≤ 1
one {es} r = subst (λ fs. length fs ≤ 1) (sym (ap refusals r.is ∙ refusals-behind r.logs (lastly r.ending))) (one_lastly r.ending)

-- before the first opening
none_kind : (S : Setting) (l : Piece) (k : LineKind) (rest : Stage → List Event) → is_opening k ≡ false → records (rest outside) ≡ [] → records (came S (by_kind S outside l k) rest) ≡ []
none_kind S l (Opening f v) rest h r = absurd (true≢false h)
none_kind S l (Continuation f v) rest h r = refl
none_kind S l End rest h r = r
none_kind S l Dotted rest h r = r
none_kind S l Other rest h r = r

pub none_logged : (S : Setting) (e : ℕ) (ls : List Piece) → AllByRecursion NoOpening ls → records (within S e outside ls) ≡ []
none_logged S e [] hs = refl
none_logged S e (l ∷ ls) hs = none_kind S l (kind_of l.1) (λ τ. within S e τ ls) hs.0 (none_logged S e ls hs.1)

-- a text of one message
module _ (S : Setting) (text : List ℕ) (l : Piece) (ls : List Piece) (is : lines text ≡ l ∷ ls) (hs : AllByRecursion NoOpening ls) where
  by_first : (b : Bool) → is_opening (kind_of l.1) ≡ b → EndsOnce (events S text)
  by_first true h = subst EndsOnce (sym (one_stretch S text l ls is hs h)) (ends_stretch S (length text) (l, ls))
  by_first false h = subst EndsOnce (sym (no_stretch S text l ls is hs h)) (ends_within S (length text) outside (l ∷ ls))

  single : EndsOnce (events S text) × (length (refusals (events S text)) ≤ 1)
  single = let r = by_first (is_opening (kind_of l.1)) refl in (r, one r)

-- the whole text
together : (es fs : List Event) → length (refusals (es ++ fs)) ≡ length (refusals es) + length (refusals fs)
together es fs = ap length (refusals-append es fs) ∙ length-append (refusals es) (refusals fs)

one_each : (S : Setting) (e : ℕ) (ss : List Stretch) → length (refusals (stretches S e ss)) ≤ length ss
one_each S e [] = omega arith
one_each S e (s ∷ ss) = omega (arith, together (stretch S (end_of e ss) s) (stretches S e ss), one (ends_stretch S (end_of e ss) s), one_each S e ss)

whole : (S : Setting) (text : List ℕ) → length (refusals (events S text)) ≤ length (cut (lines text)).1 + 1
whole S text =
    let c = cut (lines text) in
    let e = end_of (length text) c.1 in
    omega (arith, together (within S e outside c.0) (stretches S (length text) c.1), one (ends_within S e outside c.0), one_each S (length text) c.1)

pub one_refusal : OneRefusal
one_refusal = record {
  message = λ S e s. (ends_stretch S e s, one (ends_stretch S e s));
  preface = λ S e ls. (none_logged S e (cut ls).0 (before ls), one (ends_within S e outside (cut ls).0));
  single = single;
  whole = whole;
}
