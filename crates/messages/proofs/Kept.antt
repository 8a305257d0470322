-- The code that waits in a message is always a full one.
use Rattle.std.proofs.Common.{◌≡◌, Bool, true, false, cond, List, ℕ, is_some, Some, None, Ok, Err, Option, Result, sym, refl, ap, ◌∙◌}
use Rattle.std.specs.Option.{option_map, ok_or}
use Rattle.items.specs.Words.{split_item}
use Rattle.merging.specs.Merging.{Sided, of_header, of_line, is_d}
use Rattle.quantity.specs.declared.code.Code.{Code as Signs}
use Rattle.quantity.specs.Codes.{code_of, full_code}
use Rattle.quantity.proofs.Whole.{full}
use Rattle.reader.specs.declared.kind.Form.{Form}
use Rattle.reader.specs.declared.kind.Form.TheVariants.{A, B, E}
use Rattle.record.specs.Entries.{Entry}
use Rattle.refusals.specs.declared.ItemRefusal.{ItemRefusal}
use Rattle.refusals.specs.declared.ItemRefusal.TheVariants.{DItem, Code, NoCodeOrInterval}
use Rattle.terms.specs.Items.{after_item}
use Rattle.terms.specs.Standing.{Standing}
use Rattle.terms.specs.declared.stage.Stage.{Stage}
use Rattle.terms.specs.declared.stage.Stage.TheVariants.{Free}
use Rattle.daylight.specs.Settings.{Setting}
use Rattle.messages.specs.Models.{Common, Reached, fresh, signs_of, reached}
use Rattle.messages.specs.Refusing.{Coded}
use Rattle.messages.specs.Turns.{Turned, silent, is_empty, with_terms, with_code, d_item, code_read, valued, gives, item_of_a, next_step, mark_of_step, step_of_e, stage_of, code_or_step, item_of_e, item_of_header, item_of_body, item_of_line, turn}
use Rattle.messages.specs.Ways.{then_ok}
use Rattle.messages.specs.declared.message.Progress.{Progress}

signs_full : (o : Option Signs) (code : List ℕ) → option_map signs_of o ≡ Some code → full_code code ≡ true
signs_full None code h = cc
signs_full (Some c) code h = let same : c.signs ≡ code = cc in ap full_code (sym same) ∙ c.ok

pub held : (p : Progress) → Coded (reached p)
held p code h = signs_full p.code code h

pub opens : (t : Standing) → Coded (fresh t)
opens t code h = cc

-- where an item leads to
abbrev pub Keeps : Turned → Type 0
Keeps (Ok t) = Coded t.0
Keeps (Err r) = Unit {0}

keeps_then : {X : Type 0} (r : Result X ItemRefusal) (f : X → Turned) → ((x : X) → Keeps (f x)) → Keeps (then_ok r f)
keeps_then (Ok x) f h = h x
keeps_then (Err r) f h = tt

keeps_cond : (b : Bool) (x y : Turned) → Keeps x → Keeps y → Keeps (cond b x y)
keeps_cond true x y hx hy = hx
keeps_cond false x y hx hy = hy

module _ (S : Setting) (m : Common) (p : Reached) (coded : Coded p) where
  keeps_d : (stage : Stage) (item : List ℕ) → Keeps (d_item S m p stage item)
  unfolding d_item
  keeps_d stage item = keeps_then (ok_or (after_item S.today S.daylight m.zone stage item p.terms) DItem) (λ t. silent (with_terms p t)) (λ t. coded)

  keeps_gives : (q : Reached) → Coded q → (r : Result Entry ItemRefusal) → Keeps (gives q r)
  keeps_gives q h r = keeps_then r (λ e. Ok (q, Some e)) (λ e. h)

  new_code : (item : List ℕ) (o : Option (List ℕ)) → code_of item ≡ o → Keeps (then_ok (ok_or o Code) (λ code. silent (with_code p (Some code))))
  new_code item None is = tt
  new_code item (Some code) is = λ c h. let same : code ≡ c = cc in full item c (is ∙ ap Some same)

  keeps_header : (item : List ℕ) → Keeps (item_of_header S m p item)
  unfolding item_of_header
  keeps_header item = keeps_cond (is_empty item) _ _ coded (keeps_cond (is_d item) _ _ (keeps_d Free item) (new_code item (code_of item) refl))

  no_code : (q : Reached) → q.code ≡ None → Coded q
  no_code q none code h = cc

  keeps_step : (o : Option (List ℕ)) (item : List ℕ) → Keeps (code_or_step S m p o item)
  unfolding step_of_e
  keeps_step None item = keeps_cond (is_empty item) _ _ coded (new_code item (code_of item) refl)
  keeps_step (Some code) item = keeps_cond (is_empty item) _ _ coded (keeps_cond (is_some p.terms.interval) (gives (next_step p true) (valued S.daylight m p.terms code item (mark_of_step p.begun) p.steps)) (Err NoCodeOrInterval) (keeps_gives (next_step p true) coded _) tt)

  keeps_line : (f : Form) (item : List ℕ) → Keeps (item_of_line f S m p item)
  unfolding item_of_a item_of_body item_of_e
  keeps_line A item =
      keeps_cond (is_empty item) _ _ coded (keeps_cond (is_d item) _ _ (keeps_d Free item) (keeps_then (code_read (split_item item).0) _ (λ code. keeps_gives p coded _)))
  keeps_line B item =
      let used = with_code p None in
      keeps_cond (is_empty item) _ _ (no_code used refl) (keeps_cond (is_d item) _ _ (keeps_d Free item) (keeps_then (ok_or p.code NoCodeOrInterval) _ (λ code. keeps_gives used (no_code used refl) _)))
  keeps_line E item = keeps_cond (is_d item) _ _ (keeps_d (stage_of p.steps) item) (keeps_step p.code item)

  pub keeps_turn : (x : Sided) → Keeps (turn S m p x)
  keeps_turn (of_header x) = keeps_header x.1
  keeps_turn (of_line x) = keeps_line m.form x.1

kept : (t : Turned) (q : Reached) (o : Option Entry) → t ≡ Ok (q, o) → Keeps t → Coded q
kept (Ok t) q o h k = let same : t ≡ (q, o) = cc in λ code is. k code (ap (λ (x : Reached × Option Entry). x.0.code) same ∙ is)
kept (Err r) q o h k = cc

pub keeps : (S : Setting) (m : Common) (p q : Reached) (x : Sided) (o : Option Entry) → Coded p → turn S m p x ≡ Ok (q, o) → Coded q
keeps S m p q x o coded h = kept (turn S m p x) q o h (keeps_turn S m p coded x)
