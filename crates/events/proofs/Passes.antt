-- Steps of getting through events.
use Rattle.std.proofs.Common.{◌≡◌, ℕ, zero, suc, ◌-◌, ◌<◌, ◌≤◌, List, [], ◌∷◌, ◌++◌, length, Err, Result, sym, refl, ap, ◌∙◌, subst, append_assoc, arith, length-append}
use Rattle.record.specs.Entries.{Entry}
use Rattle.sink.specs.Logs.{Log, log, put, put_all}
use Rattle.events.specs.Events.{Event, logged}
use Rattle.refusals.specs.declared.Fault.{Fault}
use Rattle.refusals.specs.declared.Refusal.{Refusal}
use Rattle.refusals.specs.declared.Refusal.TheVariants.{CurrentDate, Message, Item, NoRoom}
use Rattle.events.specs.Passing.{logged_all, entries_of, Passed, StopsAt, Stopped, Comes}

pub put_all_append : {T : Type 0} (l : Log T) (xs ys : List T) → put_all l (xs ++ ys) ≡ put_all (put_all l xs) ys
put_all_append l [] ys = refl
put_all_append l (x ∷ xs) ys = put_all_append (put l x) xs ys

pub entries_append : (xs ys : List (ℕ × Entry)) → entries_of (xs ++ ys) ≡ entries_of xs ++ entries_of ys
entries_append [] ys = refl
entries_append (x ∷ xs) ys = ap (λ l. x.1 ∷ l) (entries_append xs ys)

pub logged_append : (xs ys : List (ℕ × Entry)) → logged_all (xs ++ ys) ≡ logged_all xs ++ logged_all ys
logged_append [] ys = refl
logged_append (x ∷ xs) ys = ap (λ l. logged x.0 x.1 ∷ l) (logged_append xs ys)

-- room falls by what is put
pub put_room : (h : List Entry) (n : ℕ) (xs : List (ℕ × Entry)) → length xs ≤ n → (put_all (log h n) (entries_of xs)).room ≡ n - length xs
put_room h n [] le = omega arith
put_room h zero (x ∷ xs) le = absurd (omega arith)
put_room h (suc n) (x ∷ xs) le = put_room (h ++ x.1 ∷ []) n xs (omega arith) ∙ omega arith

module _ {K : Type 0} {l : Log Entry} where
  -- nothing has been read yet
  pub nothing : (whole : K → List Event) → Passed l l whole whole
  nothing whole = record { some = []; fits = omega arith; put = refl; is = λ k. refl }

  -- the same events by another name
  pub same : {m : Log Entry} {whole rest next : K → List Event} → Passed l m whole rest → ((k : K) → rest k ≡ next k) → Passed l m whole next
  same p e = record { some = p.some; fits = p.fits; put = p.put; is = λ k. p.is k ∙ ap (λ t. logged_all p.some ++ t) (e k) }

  -- one record more
  pub one : {m n : Log Entry} {whole rest next : K → List Event} {q : ℕ} {e : Entry} → Passed l m whole rest → ((k : K) → rest k ≡ logged q e ∷ next k) → n ≡ put m e → 0 < m.room → Passed l n whole next
  one {m} {n} {whole} {rest} {next} {q} {e} p step is-put some-room =
      let short : length p.some < l.room =
      let room : m.room ≡ l.room - length p.some = ap (λ (x : Log Entry). x.room) p.put ∙ put_room l.entries l.room p.some p.fits in omega arith in
      record {
        some = p.some ++ (q, e) ∷ [];
        fits = simp length-append (omega arith);
        put = is-put ∙ ap (λ (x : Log Entry). put x e) p.put ∙ sym (ap (put_all l) (entries_append p.some ((q, e) ∷ [])) ∙ put_all_append l (entries_of p.some) (e ∷ []));
        is = λ k. p.is k ∙ ap (λ t. logged_all p.some ++ t) (step k) ∙ sym (ap (λ t. t ++ next k) (logged_append p.some ((q, e) ∷ [])) ∙ append_assoc (logged_all p.some) (logged q e ∷ []) (next k));
      }

  -- one stretch after the other, where the second reader's k comes from the first's
  pub onward : {J : Type 0} {m n : Log Entry} {whole : K → List Event} {middle : J → List Event} {rest : K → List Event} (f : K → J) {next : J → List Event}
      → Passed l m whole (λ k. middle (f k)) → Passed m n middle next → ((k : K) → next (f k) ≡ rest k) → Passed l n whole rest
  onward {J} {m} {n} {whole} {middle} {rest} f {next} p q e =
      let room : m.room ≡ l.room - length p.some = ap (λ (x : Log Entry). x.room) p.put ∙ put_room l.entries l.room p.some p.fits in
      record {
        some = p.some ++ q.some;
        fits = simp length-append (omega (arith, p.fits, q.fits));
        put = q.put ∙ ap (λ (x : Log Entry). put_all x (entries_of q.some)) p.put ∙ sym (ap (put_all l) (entries_append p.some q.some) ∙ put_all_append l (entries_of p.some) (entries_of q.some));
        is = λ k. p.is k ∙ ap (λ t. logged_all p.some ++ t) (q.is (f k) ∙ ap (λ t. logged_all q.some ++ t) (e k)) ∙ sym (ap (λ t. t ++ rest k) (logged_append p.some q.some) ∙ append_assoc (logged_all p.some) (logged_all q.some) (rest k));
      }

-- nothing was logged, and the log is the same
pub kept : {K : Type 0} {l m : Log Entry} (whole : K → List Event) → m ≡ l → Passed l m whole whole
kept {K} {l} {m} whole e = record { some = []; fits = omega arith; put = e; is = λ k. refl }

-- what comes behind, seen from further out
pub pulled : {J K : Type 0} (f : K → J) {l m : Log Entry} {whole rest : J → List Event} → Passed l m whole rest → Passed l m (λ k. whole (f k)) (λ k. rest (f k))
pulled f p = record { some = p.some; fits = p.fits; put = p.put; is = λ k. p.is (f k) }

pub pulled_stop : {J K : Type 0} (f : K → J) (m : Log Entry) (rest : J → List Event) (r : Refusal) (p : ℕ) → StopsAt r p m rest → StopsAt r p m (λ k. rest (f k))
pulled_stop f m rest CurrentDate p s = λ k. s (f k)
pulled_stop f m rest (Message r) p s = λ k. s (f k)
pulled_stop f m rest (Item r) p s = λ k. s (f k)
pulled_stop f m rest NoRoom p s = record { none = s.none; next = s.next; tail = λ k. s.tail (f k); is = λ k. s.is (f k) }

pub pulled_stopped : {J K : Type 0} (f : K → J) {l m : Log Entry} {whole : J → List Event} {x : Fault} → Stopped x l m whole → Stopped x l m (λ k. whole (f k))
pulled_stopped f {l} {m} {whole} {x} s = record { rest = λ k. s.rest (f k); passed = pulled f s.passed; stops = pulled_stop f m s.rest x.refusal x.place s.stops }

module _ {K : Type 0} {l : Log Entry} where
  -- the events by another name
  pub renamed : {m : Log Entry} {whole other rest : K → List Event} → ((k : K) → other k ≡ whole k) → Passed l m whole rest → Passed l m other rest
  renamed e p = record { some = p.some; fits = p.fits; put = p.put; is = λ k. e k ∙ p.is k }

  pub renamed_stopped : {m : Log Entry} {whole other : K → List Event} {x : Fault} → ((k : K) → other k ≡ whole k) → Stopped x l m whole → Stopped x l m other
  renamed_stopped e s = record { rest = s.rest; passed = renamed e s.passed; stops = s.stops }

  -- a second reader stops
  pub onward_stopped : {J : Type 0} {m n : Log Entry} {whole : K → List Event} {middle : J → List Event} {x : Fault} (f : K → J)
      → Passed l m whole (λ k. middle (f k)) → Stopped x m n middle → Stopped x l n whole
  onward_stopped {J} {m} {n} {whole} {middle} {x} f p s =
      record { rest = λ k. s.rest (f k); passed = onward f p s.passed (λ k. refl); stops = pulled_stop f n s.rest x.refusal x.place s.stops }

-- what the exit of a `?` hands on
pub comes_err : {K Q : Type 0} {r : Result Q Fault} (l m : Log Entry) (whole : K → List Event) (rest : Q → K → List Event) {y f : Fault}
    → r ≡ Err y → y ≡ f → Stopped f l m whole → Comes r l m whole rest
comes_err {K} {Q} {r} l m whole rest {y} {f} er ey s = subst (λ (x : Result Q Fault). Comes x l m whole rest) (sym (er ∙ ap Err ey)) s
