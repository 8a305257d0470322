-- How many records items come to.
use Rattle.std.proofs.Common.{◌≡◌, ℕ, ◌+◌, ◌-◌, ◌≤◌, Bool, true, false, cond, not, ◌||◌, List, [], ◌∷◌, ◌++◌, length, is_some, Some, None, Ok, Err, Option, Result, sym, refl, ap, ◌∙◌, append-nil, arith}
use Rattle.std.specs.Option.{ok_or}
use Rattle.std.specs.List.{AllByRecursion}
use Rattle.std.proofs.lemmas.Bool.{true≢false}
use Rattle.merging.specs.Merging.{Sided, of_header, of_line, is_d, filled, from_header, own_items as line_items}
use Rattle.items.specs.Words.{split_item}
use Rattle.reader.specs.Lines.{Piece}
use Rattle.reader.specs.declared.kind.Form.{Form}
use Rattle.reader.specs.declared.kind.Form.TheVariants.{A, B, E}
use Rattle.record.specs.Entries.{Entry}
use Rattle.record.specs.declared.series.Series.TheVariants.{Single}
use Rattle.refusals.specs.declared.ItemRefusal.{ItemRefusal}
use Rattle.refusals.specs.declared.ItemRefusal.TheVariants.{DItem, NoCodeOrInterval}
use Rattle.refusals.specs.declared.Refusal.TheVariants.{Item}
use Rattle.terms.specs.Items.{after_item}
use Rattle.terms.specs.Standing.{Standing}
use Rattle.terms.specs.declared.stage.Stage.{Stage}
use Rattle.terms.specs.declared.stage.Stage.TheVariants.{Free}
use Rattle.events.specs.Events.{Event, refused}
use Rattle.events.specs.Passing.{logged_all}
use Rattle.daylight.specs.Settings.{Setting}
use Rattle.messages.specs.Models.{Common, Reached, fresh}
use Rattle.messages.specs.Roles.{is_plain}
use Rattle.messages.specs.Turns.{Turned, silent, is_empty, with_terms, d_item, code_read, valued, gives, item_of_a, next_step, mark_of_step, step_of_e, stage_of, code_or_step, item_of_e, item_of_header, item_of_body, item_of_line, turn}
use Rattle.messages.specs.Ways.{then_ok}
use Rattle.logging.specs.Follow.{place_of, logs, turn_then, follow}
use Rattle.logging.specs.Own.{own_items}
use Rattle.stages.specs.Stages.{is_table}
use Rattle.laws.specs.Readings.{plain_items, readings_in, Accounted}

-- how many plain items are no readings yet: in .E the code
abbrev pub due : Form → Option (List ℕ) → ℕ
due A c = 0
due B c = 0
due E None = 1
due E (Some code) = 0

abbrev given : Option Entry → ℕ
given None = 0
given (Some e) = 1

-- what an item of which n are plain does to the count
abbrev Tallies : Form → Option (List ℕ) → ℕ → Turned → Type 0
Tallies f c n (Err r) = Unit {0}
Tallies f c n (Ok t) = (given t.1 ≡ n - due f c) × (due f t.0.code ≡ due f c - n)

module _ (f : Form) (c : Option (List ℕ)) where
  then_tallies : {X : Type 0} (n : ℕ) (r : Result X ItemRefusal) (g : X → Turned) → ((x : X) → Tallies f c n (g x)) → Tallies f c n (then_ok r g)
  then_tallies n (Ok x) g h = h x
  then_tallies n (Err r) g h = tt

  silent_tallies : (p : Reached) → p.code ≡ c → Tallies f c 0 (silent p)
  silent_tallies p e = let d = ap (due f) e in (omega arith, omega arith)

  d_tallies : (S : Setting) (m : Common) (p : Reached) (stage : Stage) (item : List ℕ) → p.code ≡ c → Tallies f c 0 (d_item S m p stage item)
  unfolding d_item
  d_tallies S m p stage item e = then_tallies 0 (ok_or (after_item S.today S.daylight m.zone stage item p.terms) DItem) (λ t. silent (with_terms p t)) (λ t. silent_tallies (with_terms p t) e)

  -- an item is empty, a D item or plain
  by_empty : (a b : Bool) (x y z : Turned) → Tallies f c 0 x → Tallies f c 0 y → Tallies f c 1 z → Tallies f c (cond (not (a || b)) 1 0) (cond a x (cond b y z))
  by_empty true b x y z hx hy hz = hx
  by_empty false true x y z hx hy hz = hy
  by_empty false false x y z hx hy hz = hz

  by_d : (a b : Bool) (x y z : Turned) → Tallies f c 0 x → Tallies f c 0 y → Tallies f c 1 z → Tallies f c (cond (not (a || b)) 1 0) (cond b y (cond a x z))
  by_d true true x y z hx hy hz = hy
  by_d true false x y z hx hy hz = hx
  by_d false true x y z hx hy hz = hy
  by_d false false x y z hx hy hz = hz

module _ (S : Setting) (m : Common) (p : Reached) (item : List ℕ) where
  abbrev plain : ℕ
  plain = cond (is_plain item) 1 0

  a_tallies : Tallies A p.code plain (item_of_a S m p item)
  unfolding item_of_a
  a_tallies =
      by_empty A p.code (is_empty item) (is_d item) _ _ _ (silent_tallies A p.code p refl) (d_tallies A p.code S m p Free item refl)
      (then_tallies A p.code 1 (code_read (split_item item).0) _ (λ code. then_tallies A p.code 1 (valued S.daylight m p.terms code (split_item item).1 Single 0) _ (λ e. (refl, refl))))

  body_tallies : Tallies B p.code plain (item_of_body S m p item)
  unfolding item_of_body
  body_tallies =
      by_empty B p.code (is_empty item) (is_d item) _ _ _ (refl, refl) (d_tallies B p.code S m p Free item refl)
      (then_tallies B p.code 1 (ok_or p.code NoCodeOrInterval) _ (λ code. then_tallies B p.code 1 (valued S.daylight m p.terms code item Single 0) _ (λ e. (refl, refl))))

  header_zero : (a b : Bool) (x y z : Turned) → Tallies B p.code 0 x → Tallies B p.code 0 y → Tallies B p.code 0 z → Tallies B p.code 0 (cond a x (cond b y z))
  header_zero true b x y z hx hy hz = hx
  header_zero false true x y z hx hy hz = hy
  header_zero false false x y z hx hy hz = hz

  header_tallies : Tallies B p.code 0 (item_of_header S m p item)
  unfolding item_of_header
  header_tallies =
      header_zero (is_empty item) (is_d item) _ _ _ (silent_tallies B p.code p refl) (d_tallies B p.code S m p Free item refl)
      (then_tallies B p.code 0 (code_read item) _ (λ code. (refl, refl)))

  step_tallies : (code : List ℕ) (b : Bool) → p.code ≡ Some code → Tallies E (Some code) 1 (cond b (gives (next_step p true) (valued S.daylight m p.terms code item (mark_of_step p.begun) p.steps)) (Err NoCodeOrInterval))
  step_tallies code true e = then_tallies E (Some code) 1 (valued S.daylight m p.terms code item (mark_of_step p.begun) p.steps) _ (λ x. (refl, ap (due E) e))
  step_tallies code false e = tt

  e_by : (c : Option (List ℕ)) → p.code ≡ c → Tallies E c plain (cond (is_d item) (d_item S m p (stage_of p.steps) item) (code_or_step S m p c item))
  unfolding step_of_e
  e_by None e =
      by_d E None (is_empty item) (is_d item) _ _ _ (silent_tallies E None p e) (d_tallies E None S m p (stage_of p.steps) item e)
      (then_tallies E None 1 (code_read item) _ (λ code. (refl, refl)))
  e_by (Some code) e =
      by_d E (Some code) (is_empty item) (is_d item) _ _ _ (silent_tallies E (Some code) (next_step p p.begun) e) (d_tallies E (Some code) S m p (stage_of p.steps) item e)
      (step_tallies code (is_some p.terms.interval) e)

  e_tallies : Tallies E p.code plain (item_of_e S m p item)
  unfolding item_of_e
  e_tallies = e_by p.code refl

  line_tallies : (f : Form) → Tallies f p.code plain (item_of_line f S m p item)
  line_tallies A = a_tallies
  line_tallies B = body_tallies
  line_tallies E = e_tallies

  head_tallies : (f : Form) → is_table f ≡ true → Tallies f p.code 0 (item_of_header S m p item)
  head_tallies A h = absurd (true≢false (sym h))
  head_tallies B h = header_tallies
  head_tallies E h = absurd (true≢false (sym h))

-- only a table has items of a header
abbrev pub Fits : Form → Sided → Type 0
Fits f (of_header q) = is_table f ≡ true
Fits f (of_line q) = Unit {0}

abbrev plain_in : Sided → ℕ
plain_in (of_header q) = 0
plain_in (of_line q) = cond (is_plain q.1) 1 0

turn_tallies : (S : Setting) (m : Common) (p : Reached) (x : Sided) → Fits m.form x → Tallies m.form p.code (plain_in x) (turn S m p x)
turn_tallies S m p (of_header q) h = head_tallies S m p q.1 m.form h
turn_tallies S m p (of_line q) h = line_tallies S m p q.1 m.form

abbrev pub plain_of : List Sided → ℕ
plain_of xs = plain_items (line_items xs)

plain_more : (x : Sided) (xs : List Sided) → plain_of (x ∷ xs) ≡ plain_in x + plain_of xs
plain_more (of_header q) xs = omega arith
plain_more (of_line q) xs = refl

pub plain_front : (xs ys : List Sided) → plain_of xs ≤ plain_of (xs ++ ys)
plain_front [] ys = omega arith
plain_front (x ∷ xs) ys = omega (arith, plain_more x xs, plain_more x (xs ++ ys), plain_front xs ys)

abbrev pub due_at : Common → Reached → ℕ
due_at m p = due m.form p.code

-- all items are read, or one is refused
pub data Counted (S : Setting) (m : Common) (p : Reached) (xs : List Sided) : Type 0 where
  all : (ys : List (ℕ × Entry)) (q : Reached) → ((k : Reached → List Event) → follow S m p xs k ≡ logged_all ys ++ k q)
      → length ys ≡ plain_of xs - due_at m p → due_at m q ≡ due_at m p - plain_of xs → Counted S m p xs
  upto : (read : List Sided) (x : Sided) (more : List Sided) (ys : List (ℕ × Entry)) (r : ItemRefusal) → xs ≡ read ++ x ∷ more
      → ((k : Reached → List Event) → follow S m p xs k ≡ logged_all ys ++ refused (Item r) (place_of x) ∷ []) → length ys ≡ plain_of read - due_at m p → Counted S m p xs

abbrev with_log : ℕ → Option Entry → List (ℕ × Entry) → List (ℕ × Entry)
with_log place None ys = ys
with_log place (Some e) ys = (place, e) ∷ ys

with_length : (place : ℕ) (o : Option Entry) (ys : List (ℕ × Entry)) → length (with_log place o ys) ≡ given o + length ys
with_length place None ys = omega arith
with_length place (Some e) ys = omega arith

with_is : (place : ℕ) (o : Option Entry) (ys : List (ℕ × Entry)) (es : List Event) → logs place o (logged_all ys ++ es) ≡ logged_all (with_log place o ys) ++ es
with_is place None ys es = refl
with_is place (Some e) ys es = refl

module _ (S : Setting) (m : Common) (p : Reached) (x : Sided) (xs : List Sided) where
  read_one : (t : Reached × Option Entry) → turn S m p x ≡ Ok t → Tallies m.form p.code (plain_in x) (Ok t) → Counted S m t.0 xs → Counted S m p (x ∷ xs)
  read_one t e h (all ys q is many rest) =
      let n = plain_more x xs in
      let w = with_length (place_of x) t.1 ys in
      all (with_log (place_of x) t.1 ys) q
      (λ k. ap (λ y. turn_then (place_of x) y (λ r. follow S m r xs k)) e ∙ ap (logs (place_of x) t.1) (is k) ∙ with_is (place_of x) t.1 ys (k q))
      (omega arith) (omega arith)
  read_one t e h (upto read y more ys r parts is many) =
      let n = plain_more x read in
      let w = with_length (place_of x) t.1 ys in
      upto (x ∷ read) y more (with_log (place_of x) t.1 ys) r (ap (λ zs. x ∷ zs) parts)
      (λ k. ap (λ z. turn_then (place_of x) z (λ q. follow S m q xs k)) e ∙ ap (logs (place_of x) t.1) (is k) ∙ with_is (place_of x) t.1 ys (refused (Item r) (place_of y) ∷ []))
      (omega arith)

  read_turn : (t : Turned) → turn S m p x ≡ t → Tallies m.form p.code (plain_in x) t → ((q : Reached) → Counted S m q xs) → Counted S m p (x ∷ xs)
  read_turn (Err r) e h more = upto [] x xs [] r refl (λ k. ap (λ y. turn_then (place_of x) y (λ q. follow S m q xs k)) e) (omega arith)
  read_turn (Ok t) e h more = read_one t e h (more t.0)

pub counted : (S : Setting) (m : Common) (p : Reached) (xs : List Sided) → AllByRecursion (Fits m.form) xs → Counted S m p xs
counted S m p [] h = all [] p (λ k. refl) (omega arith) (omega arith)
counted S m p (x ∷ xs) h = read_turn S m p x xs (turn S m p x) refl (turn_tallies S m p x h.0) (λ q. counted S m q xs h.1)

pub own_fits : (f : Form) (qs : List Piece) → AllByRecursion (Fits f) (own_items f qs)
own_fits A [] = tt
own_fits A (q ∷ qs) = (tt, own_fits A qs)
own_fits B [] = tt
own_fits B (q ∷ qs) = (refl, own_fits B qs)
own_fits E [] = tt
own_fits E (q ∷ qs) = (tt, own_fits E qs)

fits_one : (f : Form) → is_table f ≡ true → (x : Sided) → Fits f x
fits_one f h (of_header q) = h
fits_one f h (of_line q) = tt

pub table_fits : (f : Form) → is_table f ≡ true → (xs : List Sided) → AllByRecursion (Fits f) xs
table_fits f h [] = tt
table_fits f h (x ∷ xs) = (fits_one f h x, table_fits f h xs)

less_due : (f : Form) (qs : List Piece) → plain_items qs - due f None ≡ readings_in f qs
less_due A qs = omega arith
less_due B qs = omega arith
less_due E qs = refl

accounted : (S : Setting) (m : Common) (t : Standing) (xs : List Sided) → Counted S m (fresh t) xs → Accounted S m t xs
accounted S m t xs (all ys q is many rest) =
    record { read = xs; left = []; logs = ys; end = []; whole = sym (append-nil xs); comes = is (λ _. []); many = many ∙ less_due m.form (line_items xs); stops = refl }
accounted S m t xs (upto read x more ys r parts is many) = record {
  read = read;
  left = x ∷ more;
  logs = ys;
  end = refused (Item r) (place_of x) ∷ [];
  whole = parts;
  comes = is (λ _. []);
  many = many ∙ less_due m.form (line_items read);
  stops = (r, refl);
}

pub of_message : (S : Setting) (m : Common) (t : Standing) (qs : List Piece) → Accounted S m t (own_items m.form qs)
of_message S m t qs = accounted S m t (own_items m.form qs) (counted S m (fresh t) (own_items m.form qs) (own_fits m.form qs))

pub of_line_lem : (S : Setting) (m : Common) (t : Standing) (hs ls : List Piece) → is_table m.form ≡ true → Accounted S m t (from_header (filled hs) ls)
of_line_lem S m t hs ls h = accounted S m t (from_header (filled hs) ls) (counted S m (fresh t) (from_header (filled hs) ls) (table_fits m.form h (from_header (filled hs) ls)))
