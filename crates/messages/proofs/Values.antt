-- When a value is refused, and by which refusal.
use Rattle.std.proofs.Common.{◌≡◌, ℕ, ◌^◌, ◌≤◌, Bool, true, false, cond, not, ◌&&◌, ◌||◌, eqb, ◌⊎◌, List, [], ◌∷◌, is_some, ℤ, pos, negsuc, nat_lt, unsigned_abs, slice_index, Some, None, Ok, Err, Option, Result, sym, refl, ap, ◌∙◌, inl, inr, ⊎_elim, arith, eqb-true, ne_eqb, ltb-false, le-ltb}
use Rattle.std.proofs.lemmas.Bool.{and_parts}
use Rattle.std.proofs.lemmas.Slice.Eq.{bytes_eq-Decides}
use Rattle.std.specs.Str.{bytes_eq}
use Rattle.quantity.specs.Amounts.{is_absent}
use Rattle.quantity.specs.Codes.{full_code, is_duration, is_variable, duration_number}
use Rattle.quantity.specs.Elements.{element_of, is_named, lookup, elements}
use Rattle.quantity.specs.Parameters.{with_number, parameter_of}
use Rattle.quantity.specs.declared.element.Element.{Element}
use Rattle.quantity.specs.declared.units.Units.{Units}
use Rattle.values.specs.Numbers.{amount_of}
use Rattle.values.specs.Reading.{Stated, number_of, qualifier_of, value_in, in_english, qualified_by, amount_read, is_missing, is_trace, knows_trace, read_for, read_of, read_value}
use Rattle.values.specs.declared.reading.ValueFault.{ValueFault}
use Rattle.values.specs.declared.reading.ValueFault.TheVariants.{Malformed, TooLarge}
use Rattle.messages.specs.Refusing.{is_value, Outgrown}

-- the duration of a full code has a number, but for V where no DV is in force
lacking : (b : Bool) (v d : Option ℕ) (code : List ℕ) → (b || is_some d) ≡ true → with_number code (cond b v d) ≡ None → (b ≡ true) × (v ≡ None)
lacking true None d code h e = (refl, refl)
lacking true (Some n) d code h e = cc
lacking false v None code h e = cc
lacking false v (Some n) code h e = cc

lacks : (b : Bool) (v d : Option ℕ) (code : List ℕ) → b ≡ true → v ≡ None → with_number code (cond b v d) ≡ None
lacks true None d code h e = refl
lacks true (Some n) d code h e = cc
lacks false v d code h e = cc

-- the element of a full code, and its duration
record Whole (code : List ℕ) : Type 0 where
  element : Element
  named : element_of (slice_index code 0) (slice_index code 1) ≡ Some element
  first : element.first ≡ slice_index code 0
  second : element.second ≡ slice_index code 1
  lasts : is_duration (slice_index code 2) ≡ true

found_one : (a b : ℕ) (x e : Element) (rest : Option Element) (t : Bool) → is_named a b x ≡ t → (rest ≡ Some e → (e.first ≡ a) × (e.second ≡ b)) → cond t (Some x) rest ≡ Some e → (e.first ≡ a) × (e.second ≡ b)
found_one a b x e rest true is more h =
    let p : (eqb x.first a ≡ true) × (eqb x.second b ≡ true) = and_parts (eqb x.first a) (eqb x.second b) is in
    let same : x ≡ e = cc in
    (ap (λ (y : Element). y.first) (sym same) ∙ eqb-true _ _ p.0, ap (λ (y : Element). y.second) (sym same) ∙ eqb-true _ _ p.1)
found_one a b x e rest false is more h = more h

found : (a b : ℕ) (es : List Element) (e : Element) → lookup a b es ≡ Some e → (e.first ≡ a) × (e.second ≡ b)
found a b [] e h = cc
found a b (x ∷ es) e h = found_one a b x e (lookup a b es) (is_named a b x) refl (found a b es e) h

whole_of : (code : List ℕ) (o : Option Element) → element_of (slice_index code 0) (slice_index code 1) ≡ o → is_some o ≡ true → is_duration (slice_index code 2) ≡ true → Whole code
whole_of code None e s d = cc
whole_of code (Some x) e s d = let f = found (slice_index code 0) (slice_index code 1) elements x e in record { element = x; named = e; first = f.0; second = f.1; lasts = d }

whole : (code : List ℕ) → full_code code ≡ true → Whole code
whole code h =
    let p = and_parts _ _ h in
    let q = and_parts _ _ p.1 in
    let r = and_parts _ _ q.1 in
    whole_of code (element_of (slice_index code 0) (slice_index code 1)) refl q.0 r.0

-- M, MM and T say no number
either : (a b : Bool) → (a || b) ≡ true → (a ≡ true) ⊎ (b ≡ true)
either true b h = inl refl
either false b h = inr h

missing_none : (text : List ℕ) → is_missing text ≡ true → amount_of (number_of text) ≡ None
missing_none text h =
    ⊎_elim (λ a. let e = (bytes_eq-Decides text (77 ∷ [])).0 a in rw e) (λ b. let e = (bytes_eq-Decides text (77 ∷ 77 ∷ [])).0 b in rw e)
    (either (bytes_eq text (77 ∷ [])) (bytes_eq text (77 ∷ 77 ∷ [])) h)

trace_none : (text : List ℕ) → is_trace text ≡ true → amount_of (number_of text) ≡ None
trace_none text h = let e = (bytes_eq-Decides text (84 ∷ [])).0 h in rw e

-- what a number comes to, by whether it and what it comes to say a missing value, and whether that is small enough
module _ (q : ℕ) (w : ℤ) where
  abbrev comes_by : Bool → Bool → Bool → Result Stated ValueFault
  comes_by absent gone small = qualified_by q (cond absent (Ok None) (cond gone (Ok None) (cond (small && not gone) (Ok (Some w)) (Err TooLarge))))

  large_by : (a b l : Bool) → comes_by a b l ≡ Err TooLarge → (a ≡ false) × (l ≡ false)
  large_by true b l h = cc
  large_by false true l h = cc
  large_by false false true h = cc
  large_by false false false h = (refl, refl)

  by_large : (a b l : Bool) → a ≡ false → b ≡ false → l ≡ false → comes_by a b l ≡ Err TooLarge
  by_large true b l ha hb hl = cc
  by_large false true l ha hb hl = cc
  by_large false false true ha hb hl = cc
  by_large false false false ha hb hl = refl

  not_malformed : (a b l : Bool) → comes_by a b l ≡ Err Malformed → ⊥
  not_malformed true b l h = cc
  not_malformed false true l h = cc
  not_malformed false false true h = cc
  not_malformed false false false h = cc

no_absent : (w : ℤ) → 10 ^ 12 ≤ unsigned_abs w → is_absent w ≡ false
no_absent (pos n) l = refl
no_absent (negsuc n) l = ne_eqb n 99989999 (λ e. omega arith)

module _ (e : Element) (u : Units) (q : ℕ) (z : ℤ) where
  abbrev shown : ℤ
  shown = in_english e u z

  never_malformed : qualified_by q (value_in e u z) ≡ Err Malformed → ⊥
  never_malformed h = not_malformed q shown (is_absent z) (is_absent shown) (nat_lt (unsigned_abs shown) (10 ^ 12)) h

  large_of : qualified_by q (value_in e u z) ≡ Err TooLarge → (is_absent z ≡ false) × (10 ^ 12 ≤ unsigned_abs shown)
  large_of h = let p = large_by q shown (is_absent z) (is_absent shown) (nat_lt (unsigned_abs shown) (10 ^ 12)) h in (p.0, ltb-false (unsigned_abs shown) (10 ^ 12) p.1)

  of_large : is_absent z ≡ false → 10 ^ 12 ≤ unsigned_abs shown → qualified_by q (value_in e u z) ≡ Err TooLarge
  of_large h l = by_large q shown (is_absent z) (is_absent shown) (nat_lt (unsigned_abs shown) (10 ^ 12)) h (no_absent shown l) (le-ltb (unsigned_abs shown) (10 ^ 12) l)

-- the text of a value, by whether it is M or MM, whether it is T, whether T is known, and the number that it says
module _ (e : Element) (u : Units) (q : ℕ) where
  abbrev read_by : Bool → Bool → Bool → Option ℤ → Result Stated ValueFault
  read_by missing trace known a = cond missing (Ok (None, 90)) (cond trace (cond known (Ok (Some (pos 10), 90)) (Err Malformed)) (amount_read e u q a))

  abbrev good_by : Bool → Bool → Bool → Option ℤ → Bool
  good_by missing trace known a = missing || ((trace && known) || is_some a)

  bad_read : (i t k : Bool) (a : Option ℤ) → good_by i t k a ≡ false → read_by i t k a ≡ Err Malformed
  bad_read true t k a h = cc
  bad_read false true true a h = cc
  bad_read false true false a h = refl
  bad_read false false k None h = refl
  bad_read false false k (Some z) h = cc

  read_bad : (i t k : Bool) (a : Option ℤ) → (t ≡ true → a ≡ None) → read_by i t k a ≡ Err Malformed → good_by i t k a ≡ false
  read_bad true t k a n h = cc
  read_bad false true true a n h = cc
  read_bad false true false a n h = ap is_some (n refl)
  read_bad false false k None n h = refl
  read_bad false false k (Some z) n h = absurd (never_malformed e u q z h)

  large_read : (i t k : Bool) (a : Option ℤ) (z : ℤ) → (i ≡ true → a ≡ None) → (t ≡ true → a ≡ None) → a ≡ Some z → qualified_by q (value_in e u z) ≡ Err TooLarge → read_by i t k a ≡ Err TooLarge
  large_read true t k a z m n is h = let none = m refl in cc
  large_read false true k a z m n is h = let none = n refl in cc
  large_read false false k None z m n is h = cc
  large_read false false k (Some y) z m n is h = ap (amount_read e u q) is ∙ h

  read_large : (i t k : Bool) (a : Option ℤ) → read_by i t k a ≡ Err TooLarge → (z : ℤ) × ((a ≡ Some z) × (qualified_by q (value_in e u z) ≡ Err TooLarge))
  read_large true t k a h = cc
  read_large false true true a h = cc
  read_large false true false a h = cc
  read_large false false k None h = cc
  read_large false false k (Some z) h = (z, (refl, h))

pub unnumbered : (code : List ℕ) (v : Option ℕ) → full_code code ≡ true → parameter_of code v ≡ None → (is_variable (slice_index code 2) ≡ true) × (v ≡ None)
unnumbered code v h e = lacking (is_variable (slice_index code 2)) v (duration_number (slice_index code 2)) code (whole code h).lasts e

pub numberless : (code : List ℕ) (v : Option ℕ) → is_variable (slice_index code 2) ≡ true → v ≡ None → parameter_of code v ≡ None
numberless code v is none = lacks (is_variable (slice_index code 2)) v (duration_number (slice_index code 2)) code is none

module _ (code : List ℕ) (u : Units) (text : List ℕ) where
  -- whether T is known, by the code's element
  trace_known : (w : Whole code) → knows_trace (slice_index code 0) (slice_index code 1) ≡ knows_trace w.element.first w.element.second
  trace_known w = ap (λ (a : ℕ). knows_trace a (slice_index code 1)) (sym w.first) ∙ ap (λ (b : ℕ). knows_trace w.element.first b) (sym w.second)

  good_same : (w : Whole code) → is_value (Some code) text ≡ good_by w.element u (qualifier_of text) (is_missing text) (is_trace text) (knows_trace w.element.first w.element.second) (amount_of (number_of text))
  good_same w = ap (λ (k : Bool). is_missing text || ((is_trace text && k) || is_some (amount_of (number_of text)))) (trace_known w)

  read_as : (e : Element) → element_of (slice_index code 0) (slice_index code 1) ≡ Some e
      → read_value code u text ≡ read_by e u (qualifier_of text) (is_missing text) (is_trace text) (knows_trace e.first e.second) (amount_of (number_of text))
  unfolding read_for
  read_as e named = ap (λ o. read_of o u text) named

  pub malformed : full_code code ≡ true → is_value (Some code) text ≡ false → read_value code u text ≡ Err Malformed
  malformed h bad = let w = whole code h in read_as w.element w.named ∙ bad_read w.element u (qualifier_of text) (is_missing text) (is_trace text) _ _ (sym (good_same w) ∙ bad)

  pub of_malformed : full_code code ≡ true → read_value code u text ≡ Err Malformed → is_value (Some code) text ≡ false
  of_malformed h bad =
      let w = whole code h in
      good_same w ∙ read_bad w.element u (qualifier_of text) (is_missing text) (is_trace text) _ _ (trace_none text) (sym (read_as w.element w.named) ∙ bad)

  pub outgrown : Outgrown code u text → read_value code u text ≡ Err TooLarge
  outgrown o =
      read_as o.element o.named
      ∙ large_read o.element u (qualifier_of text) (is_missing text) (is_trace text) _ _ o.amount (missing_none text) (trace_none text) o.says (of_large o.element u (qualifier_of text) o.amount o.known o.large)

  pub of_outgrown : full_code code ≡ true → read_value code u text ≡ Err TooLarge → Outgrown code u text
  of_outgrown h big =
      let w = whole code h in
      let r = read_large w.element u (qualifier_of text) (is_missing text) (is_trace text) _ _ (sym (read_as w.element w.named) ∙ big) in
      let l = large_of w.element u (qualifier_of text) r.0 r.1.1 in
      record { element = w.element; amount = r.0; named = w.named; says = r.1.0; known = l.0; large = l.1 }
