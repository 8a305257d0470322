-- An item is refused by the lowest number that applies to it.
use Rattle.std.proofs.Common.{◌≡◌, ℕ, ◌≤◌, Bool, true, false, cond, List, is_some, slice_index, Some, None, Err, Option, sym, refl, ap, ◌∙◌, subst, arith}
use Rattle.std.specs.Option.{ok_or}
use Rattle.items.specs.Words.{split_item}
use Rattle.merging.specs.Merging.{Sided, of_header, of_line, is_d}
use Rattle.quantity.specs.Codes.{code_of, full_code, is_variable}
use Rattle.quantity.specs.Parameters.{parameter_of}
use Rattle.quantity.proofs.Whole.{full}
use Rattle.reader.specs.declared.kind.Form.{Form}
use Rattle.reader.specs.declared.kind.Form.TheVariants.{A, B, E}
use Rattle.record.specs.declared.series.Series.{Series}
use Rattle.record.specs.declared.series.Series.TheVariants.{Single}
use Rattle.refusals.specs.declared.ItemRefusal.{ItemRefusal}
use Rattle.refusals.specs.declared.ItemRefusal.TheVariants.{DItem, Code, NoCodeOrInterval, NoDuration, Value, TooLarge, NoTime}
use Rattle.terms.specs.Items.{after_item}
use Rattle.terms.specs.Observed.{observed_at}
use Rattle.terms.specs.Standing.{Standing}
use Rattle.terms.specs.declared.stage.Stage.{Stage}
use Rattle.terms.specs.declared.stage.Stage.TheVariants.{Free}
use Rattle.values.specs.Reading.{read_value}
use Rattle.daylight.specs.Settings.{Setting}
use Rattle.messages.specs.Models.{Common, Reached}
use Rattle.messages.specs.Refusing.{Lacks, AskedInVain, Applies, Lowest, number, Coded, is_value, Outgrown}
use Rattle.messages.specs.Roles.{Role, code_alone, code_with_value, value_alone, step, role_in, is_plain, signs_in, Asked, asked_in, stage_in, bytes_of, role_of, stage_at}
use Rattle.messages.specs.Turns.{Turned, silent, is_empty, with_terms, with_code, d_item, valued, gives, item_of_a, next_step, mark_of_step, step_of_e, stage_of, code_or_step, item_of_e, item_of_header, item_of_body, item_of_line, turn}
use Rattle.messages.specs.Ways.{then_ok}
use Rattle.messages.proofs.First.{First, none_applies, one_applies, then_first, first_as, Fails, chain_first}
use Rattle.messages.proofs.Sorts.{empty_no_d, by_empty, by_d}
use Rattle.messages.proofs.Values.{unnumbered, numberless, malformed, of_malformed, outgrown, of_outgrown}

pub six : (r : ItemRefusal) → 6 ≤ number r
six DItem = omega arith
six Code = omega arith
six NoCodeOrInterval = omega arith
six NoDuration = omega arith
six Value = omega arith
six TooLarge = omega arith
six NoTime = omega arith

none_is : {A : Type 0} (o : Option A) → is_some o ≡ false → o ≡ None
none_is None h = refl
none_is (Some x) h = cc

module _ (S : Setting) (m : Common) where
  -- what 9 to 12 say of a value whose code is full
  abbrev Vain : Standing → Asked → ItemRefusal → Type 0
  Vain t a r = (b : Asked) × ((Some a ≡ Some b) × AskedInVain S m t b r)

  module _ (t : Standing) (a : Asked) (code : List ℕ) (has : a.code ≡ Some code) (good : full_code code ≡ true) where
    abbrev Failing : ItemRefusal → Type 0
    Failing r = Fails (parameter_of code t.variable) (read_value code t.units a.text) (observed_at S.daylight m.zone t a.step) r

    fails_lem : (r : ItemRefusal) → AskedInVain S m t a r → Failing r
    fails_lem DItem h = h
    fails_lem Code h = h
    fails_lem NoCodeOrInterval h = h
    fails_lem NoDuration h = let same : h.0 ≡ code = cc in numberless code t.variable (ap (λ c. is_variable (slice_index c 2)) (sym same) ∙ h.1.1.0) h.1.1.1
    fails_lem Value h = malformed code t.units a.text good (ap (λ c. is_value c a.text) (sym has) ∙ h)
    fails_lem TooLarge h = let same : h.0 ≡ code = cc in outgrown code t.units a.text (subst (λ c. Outgrown c t.units a.text) same h.1.1)
    fails_lem NoTime h = h

    vain_fails : (r : ItemRefusal) → Vain t a r → Failing r
    vain_fails r h = let same : h.0 ≡ a = cc in fails_lem r (subst (λ b. AskedInVain S m t b r) same h.1.1)

    asked_vain : (r : ItemRefusal) → Failing r → AskedInVain S m t a r
    asked_vain DItem h = h
    asked_vain Code h = h
    asked_vain NoCodeOrInterval h = h
    asked_vain NoDuration h = let l = unnumbered code t.variable good h in (code, (has, l))
    asked_vain Value h = ap (λ c. is_value c a.text) has ∙ of_malformed code t.units a.text good h
    asked_vain TooLarge h = (code, (has, of_outgrown code t.units a.text good h))
    asked_vain NoTime h = h

    fails_vain : (r : ItemRefusal) → Failing r → Vain t a r
    fails_vain r h = (a, (refl, asked_vain r h))

    pub valued_first : (mark : Series) → First (Vain t a) (valued S.daylight m t code a.text mark a.step)
    unfolding valued
    valued_first mark = first_as Failing (Vain t a) _ fails_vain vain_fails (chain_first (parameter_of code t.variable) (read_value code t.units a.text) (observed_at S.daylight m.zone t a.step) _)

  -- the refusals of an item by its bytes, where it is told what it would be and whether it is a D item or a plain one
  abbrev By : Reached → Stage → Role → List ℕ → Bool → Bool → ItemRefusal → Type 0
  By p stage role item d plain DItem = (d ≡ true) × (after_item S.today S.daylight m.zone stage item p.terms ≡ None)
  By p stage role item d plain Code = (signs : List ℕ) × ((cond plain (signs_in role item) None ≡ Some signs) × (code_of signs ≡ None))
  By p stage role item d plain NoCodeOrInterval = (plain ≡ true) × Lacks role p
  By p stage role item d plain NoDuration = (a : Asked) × ((cond plain (asked_in role p item) None ≡ Some a) × AskedInVain S m p.terms a NoDuration)
  By p stage role item d plain Value = (a : Asked) × ((cond plain (asked_in role p item) None ≡ Some a) × AskedInVain S m p.terms a Value)
  By p stage role item d plain TooLarge = (a : Asked) × ((cond plain (asked_in role p item) None ≡ Some a) × AskedInVain S m p.terms a TooLarge)
  By p stage role item d plain NoTime = (a : Asked) × ((cond plain (asked_in role p item) None ≡ Some a) × AskedInVain S m p.terms a NoTime)

  module _ (p : Reached) (stage : Stage) (role : Role) (item : List ℕ) where
    -- nothing applies to an empty item
    nothing : (r : ItemRefusal) → By p stage role item false false r → ⊥
    nothing DItem h = let e = h.0 in cc
    nothing Code h = let e = h.1.0 in cc
    nothing NoCodeOrInterval h = let e = h.0 in cc
    nothing NoDuration h = let e = h.1.0 in cc
    nothing Value h = let e = h.1.0 in cc
    nothing TooLarge h = let e = h.1.0 in cc
    nothing NoTime h = let e = h.1.0 in cc

    silent_first : (q : Reached) → First (By p stage role item false false) (silent q)
    silent_first q = none_applies (By p stage role item false false) _ nothing

    -- a D item
    d_fails : (t : Standing) → after_item S.today S.daylight m.zone stage item p.terms ≡ Some t → (r : ItemRefusal) → By p stage role item true false r → ⊥
    d_fails t e DItem h = let other = h.1 in cc
    d_fails t e Code h = let e = h.1.0 in cc
    d_fails t e NoCodeOrInterval h = let e = h.0 in cc
    d_fails t e NoDuration h = let e = h.1.0 in cc
    d_fails t e Value h = let e = h.1.0 in cc
    d_fails t e TooLarge h = let e = h.1.0 in cc
    d_fails t e NoTime h = let e = h.1.0 in cc

    d_by : (o : Option Standing) → after_item S.today S.daylight m.zone stage item p.terms ≡ o → First (By p stage role item true false) (then_ok (ok_or o DItem) (λ t. silent (with_terms p t)))
    d_by None e = one_applies (By p stage role item true false) DItem (refl, e) (λ s h. six s)
    d_by (Some t) e = none_applies (By p stage role item true false) _ (d_fails t e)

    d_first : First (By p stage role item true false) (d_item S m p stage item)
    unfolding d_item
    d_first = d_by (after_item S.today S.daylight m.zone stage item p.terms) refl

    -- a plain item
    seven : (r : ItemRefusal) → By p stage role item false true r → 7 ≤ number r
    seven DItem h = let e = h.0 in cc
    seven Code h = omega arith
    seven NoCodeOrInterval h = omega arith
    seven NoDuration h = omega arith
    seven Value h = omega arith
    seven TooLarge h = omega arith
    seven NoTime h = omega arith

    eight : (By p stage role item false true Code → ⊥) → (r : ItemRefusal) → By p stage role item false true r → 8 ≤ number r
    eight n DItem h = let e = h.0 in cc
    eight n Code h = absurd (n h)
    eight n NoCodeOrInterval h = omega arith
    eight n NoDuration h = omega arith
    eight n Value h = omega arith
    eight n TooLarge h = omega arith
    eight n NoTime h = omega arith

    -- one that gives a value
    module _ (a : Asked) (asked : asked_in role p item ≡ Some a) (coded : By p stage role item false true Code → ⊥) (full-handed : Lacks role p → ⊥) where
      of_vain : (r : ItemRefusal) → Vain p.terms a r → By p stage role item false true r
      of_vain DItem h = absurd h.1.1
      of_vain Code h = absurd h.1.1
      of_vain NoCodeOrInterval h = absurd h.1.1
      of_vain NoDuration h = (h.0, (asked ∙ h.1.0, h.1.1))
      of_vain Value h = (h.0, (asked ∙ h.1.0, h.1.1))
      of_vain TooLarge h = (h.0, (asked ∙ h.1.0, h.1.1))
      of_vain NoTime h = (h.0, (asked ∙ h.1.0, h.1.1))

      in_vain : (r : ItemRefusal) → By p stage role item false true r → Vain p.terms a r
      in_vain DItem h = let e = h.0 in cc
      in_vain Code h = absurd (coded h)
      in_vain NoCodeOrInterval h = absurd (full-handed h.1)
      in_vain NoDuration h = (h.0, (sym asked ∙ h.1.0, h.1.1))
      in_vain Value h = (h.0, (sym asked ∙ h.1.0, h.1.1))
      in_vain TooLarge h = (h.0, (sym asked ∙ h.1.0, h.1.1))
      in_vain NoTime h = (h.0, (sym asked ∙ h.1.0, h.1.1))

      asked_first : (code : List ℕ) → a.code ≡ Some code → full_code code ≡ true → (mark : Series) (q : Reached) → First (By p stage role item false true) (gives q (valued S.daylight m p.terms code a.text mark a.step))
      asked_first code has good mark q =
          then_first (By p stage role item false true) (valued S.daylight m p.terms code a.text mark a.step) (λ e. (q, Some e))
          (first_as (Vain p.terms a) (By p stage role item false true) _ of_vain in_vain (valued_first p.terms a code has good mark))

  module _ (p : Reached) (held : Coded p) (item : List ℕ) where
    -- a code alone
    code_fails : (stage : Stage) (code : List ℕ) → code_of item ≡ Some code → (r : ItemRefusal) → By p stage code_alone item false true r → ⊥
    code_fails stage code is DItem h = let e = h.0 in cc
    code_fails stage code is Code h = let e = h.1.0 in let f = h.1.1 in cc
    code_fails stage code is NoCodeOrInterval h = h.1
    code_fails stage code is NoDuration h = let e = h.1.0 in cc
    code_fails stage code is Value h = let e = h.1.0 in cc
    code_fails stage code is TooLarge h = let e = h.1.0 in cc
    code_fails stage code is NoTime h = let e = h.1.0 in cc

    code_by : (stage : Stage) (o : Option (List ℕ)) → code_of item ≡ o → First (By p stage code_alone item false true) (then_ok (ok_or o Code) (λ code. silent (with_code p (Some code))))
    code_by stage None is = one_applies (By p stage code_alone item false true) Code (item, (refl, is)) (seven p stage code_alone item)
    code_by stage (Some code) is = none_applies (By p stage code_alone item false true) _ (code_fails stage code is)

    -- a code with its value
    pair_by : (o : Option (List ℕ)) → code_of (split_item item).0 ≡ o
        → First (By p Free code_with_value item false true) (then_ok (ok_or o Code) (λ code. gives p (valued S.daylight m p.terms code (split_item item).1 Single 0)))
    pair_by None is = one_applies (By p Free code_with_value item false true) Code ((split_item item).0, (refl, is)) (seven p Free code_with_value item)
    pair_by (Some code) is =
        asked_first p Free code_with_value item (record { code = code_of (split_item item).0; text = (split_item item).1; step = 0 }) refl
        (λ h. let e = h.1.0 in let f = h.1.1 in cc) (λ h. h) code is (full (split_item item).0 code is) Single p

    -- a value on a body line
    value_by : (o : Option (List ℕ)) → p.code ≡ o
        → First (By p Free value_alone item false true) (then_ok (ok_or o NoCodeOrInterval) (λ code. gives (with_code p None) (valued S.daylight m p.terms code item Single 0)))
    value_by None is = one_applies (By p Free value_alone item false true) NoCodeOrInterval (refl, is) (eight p Free value_alone item (λ h. let e = h.1.0 in cc))
    value_by (Some code) is =
        asked_first p Free value_alone item (record { code = p.code; text = item; step = 0 }) refl (λ h. let e = h.1.0 in cc) (λ h. cc) code is (held code is) Single (with_code p None)

    -- a step
    step_by : (stage : Stage) (code : List ℕ) → p.code ≡ Some code → (b : Bool) → is_some p.terms.interval ≡ b
        → First (By p stage step item false true) (cond b (gives (next_step p true) (valued S.daylight m p.terms code item (mark_of_step p.begun) p.steps)) (Err NoCodeOrInterval))
    step_by stage code is true i =
        asked_first p stage step item (record { code = p.code; text = item; step = p.steps }) refl (λ h. let e = h.1.0 in cc) (λ h. let e = ap is_some h in cc) code is (held code is) (mark_of_step p.begun) (next_step p true)
    step_by stage code is false i = one_applies (By p stage step item false true) NoCodeOrInterval (refl, none_is p.terms.interval i) (eight p stage step item (λ h. let e = h.1.0 in cc))

  module _ (p : Reached) (held : Coded p) where
    abbrev As : Stage → Role → List ℕ → Bool → Bool → Turned → Type 0
    As stage role item d plain t = First (By p stage role item d plain) t

    a_first : (item : List ℕ) → As Free code_with_value item (is_d item) (is_plain item) (item_of_a S m p item)
    unfolding item_of_a
    a_first item =
        by_empty (As Free code_with_value item) (is_empty item) (is_d item) _ _ _ (empty_no_d item) (silent_first p Free code_with_value item p) (d_first p Free code_with_value item)
        (pair_by p held item (code_of (split_item item).0) refl)

    header_first : (item : List ℕ) → As Free code_alone item (is_d item) (is_plain item) (item_of_header S m p item)
    unfolding item_of_header
    header_first item =
        by_empty (As Free code_alone item) (is_empty item) (is_d item) _ _ _ (empty_no_d item) (silent_first p Free code_alone item p) (d_first p Free code_alone item)
        (code_by p held item Free (code_of item) refl)

    body_first : (item : List ℕ) → As Free value_alone item (is_d item) (is_plain item) (item_of_body S m p item)
    unfolding item_of_body
    body_first item =
        by_empty (As Free value_alone item) (is_empty item) (is_d item) _ _ _ (empty_no_d item) (silent_first p Free value_alone item (with_code p None)) (d_first p Free value_alone item)
        (value_by p held item p.code refl)

    e_by : (o : Option (List ℕ)) → p.code ≡ o → (item : List ℕ)
        → As (stage_of p.steps) (role_in E o) item (is_d item) (is_plain item) (cond (is_d item) (d_item S m p (stage_of p.steps) item) (code_or_step S m p o item))
    unfolding step_of_e
    e_by None is item =
        by_d (As (stage_of p.steps) code_alone item) (is_empty item) (is_d item) _ _ _ (empty_no_d item) (silent_first p (stage_of p.steps) code_alone item p) (d_first p (stage_of p.steps) code_alone item)
        (code_by p held item (stage_of p.steps) (code_of item) refl)
    e_by (Some code) is item =
        by_d (As (stage_of p.steps) step item) (is_empty item) (is_d item) _ _ _ (empty_no_d item) (silent_first p (stage_of p.steps) step item (next_step p p.begun)) (d_first p (stage_of p.steps) step item)
        (step_by p held item (stage_of p.steps) code is (is_some p.terms.interval) refl)

    line_first : (f : Form) (item : List ℕ) → As (stage_in f p.steps) (role_in f p.code) item (is_d item) (is_plain item) (item_of_line f S m p item)
    unfolding item_of_e
    line_first A item = a_first item
    line_first B item = body_first item
    line_first E item = e_by p.code refl item

    alike : (x : Sided) (r : ItemRefusal) → By p (stage_at m p x) (role_of m p x) (bytes_of x) (is_d (bytes_of x)) (is_plain (bytes_of x)) r ≡ Applies S m p x r
    alike x DItem = refl
    alike x Code = refl
    alike x NoCodeOrInterval = refl
    alike x NoDuration = refl
    alike x Value = refl
    alike x TooLarge = refl
    alike x NoTime = refl

    by_first : (x : Sided) → First (By p (stage_at m p x) (role_of m p x) (bytes_of x) (is_d (bytes_of x)) (is_plain (bytes_of x))) (turn S m p x)
    by_first (of_header x) = header_first x.1
    by_first (of_line x) = line_first m.form x.1

    pub turn_first : (x : Sided) → First (Applies S m p x) (turn S m p x)
    turn_first x =
        first_as (By p (stage_at m p x) (role_of m p x) (bytes_of x) (is_d (bytes_of x)) (is_plain (bytes_of x))) (Applies S m p x) (turn S m p x)
        (λ r h. subst (λ T. T) (alike x r) h) (λ r h. subst (λ T. T) (sym (alike x r)) h) (by_first x)

pub lowest : (S : Setting) (m : Common) (p : Reached) (x : Sided) (r : ItemRefusal) → Coded p → turn S m p x ≡ Err r → Lowest S m p x r
lowest S m p x r held e = let f = turn_first S m p held x in record { applies = f.applies r e; least = λ s h. f.least r s e h }

pub refused_lem : (S : Setting) (m : Common) (p : Reached) (x : Sided) (r : ItemRefusal) → Coded p → Applies S m p x r → (k : ItemRefusal) × (turn S m p x ≡ Err k)
refused_lem S m p x r held h = (turn_first S m p held x).refused r h
