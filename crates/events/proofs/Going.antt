-- How far a decode has come, and what it comes to.
use Rattle.std.proofs.Common.{◌≡◌, ℕ, zero, suc, ◌+◌, ◌-◌, ◌≤◌, List, [], ◌∷◌, ◌++◌, length, sym, refl, ap, ◌∙◌, subst, arith}
use Rattle.record.specs.Entries.{Entry}
use Rattle.refusals.specs.declared.Fault.{Fault}
use Rattle.refusals.specs.declared.Refusal.{Refusal}
use Rattle.refusals.specs.declared.Refusal.TheVariants.{NoRoom}
use Rattle.sink.specs.Logs.{Log, log, put, put_all}
use Rattle.sink.proofs.Puts.{full}
use Rattle.events.specs.Events.{Event, logged, refused, records, fault, met, verdict}
use Rattle.events.specs.Passing.{logged_all, entries_of}
use Rattle.events.proofs.Passes.{put_room, put_all_append}

pub record Going (l m : Log Entry) (f g : Log Fault) (all rest : List Event) (found : ℕ) : Type 0 where
  pub sink : put_all m (records rest) ≡ put_all l (records all)
  pub faults : put_all g (met m.room rest) ≡ put_all f (met l.room all)
  pub number : verdict m.room rest ≡ verdict l.room all
  pub seen : found + length (met m.room rest) ≡ length (met l.room all)

records_logged : (some : List (ℕ × Entry)) (rest : List Event) → records (logged_all some ++ rest) ≡ entries_of some ++ records rest
records_logged [] rest = refl
records_logged (x ∷ xs) rest = ap (λ l. x.1 ∷ l) (records_logged xs rest)

met_logged : (n : ℕ) (some : List (ℕ × Entry)) (rest : List Event) → length some ≤ n → met n (logged_all some ++ rest) ≡ met (n - length some) rest
met_logged n [] rest le = ap (λ k. met k rest) (omega arith)
met_logged zero (x ∷ xs) rest le = absurd (omega arith)
met_logged (suc n) (x ∷ xs) rest le = met_logged n xs rest (omega arith) ∙ ap (λ k. met k rest) (omega arith)

verdict_logged : (n : ℕ) (some : List (ℕ × Entry)) (rest : List Event) → length some ≤ n → verdict n (logged_all some ++ rest) ≡ verdict (n - length some) rest
verdict_logged n [] rest le = ap (λ k. verdict k rest) (omega arith)
verdict_logged zero (x ∷ xs) rest le = absurd (omega arith)
verdict_logged (suc n) (x ∷ xs) rest le = verdict_logged n xs rest (omega arith) ∙ ap (λ k. verdict k rest) (omega arith)

module _ {l : Log Entry} {f : Log Fault} {all : List Event} where
  -- nothing has been read yet
  pub begun : Going l l f f all all 0
  begun = record { sink = refl; faults = refl; number = refl; seen = omega arith }

  -- what is left, by another name
  pub renamed : {m : Log Entry} {g : Log Fault} {rest next : List Event} {k : ℕ} → Going l m f g all rest k → rest ≡ next → Going l m f g all next k
  renamed {m} {g} {rest} {next} {k} G e = subst (λ (r : List Event). Going l m f g all r k) e G

  -- some records were logged
  pub passed : {m n : Log Entry} {g : Log Fault} {rest : List Event} {k : ℕ} (some : List (ℕ × Entry))
      → Going l m f g all (logged_all some ++ rest) k → length some ≤ m.room → n ≡ put_all m (entries_of some) → Going l n f g all rest k
  passed {m} {n} {g} {rest} {k} some G fits is =
      let room : n.room ≡ m.room - length some = ap (λ (x : Log Entry). x.room) is ∙ put_room m.entries m.room some fits in
      let em : met n.room rest ≡ met m.room (logged_all some ++ rest) = ap (λ j. met j rest) room ∙ sym (met_logged m.room some rest fits) in
      record {
        sink = ap (λ (x : Log Entry). put_all x (records rest)) is ∙ sym (ap (put_all m) (records_logged some rest) ∙ put_all_append m (entries_of some) (records rest)) ∙ G.sink;
        faults = ap (put_all g) em ∙ G.faults;
        number = ap (λ j. verdict j rest) room ∙ sym (verdict_logged m.room some rest fits) ∙ G.number;
        seen = ap (λ t. k + length t) em ∙ G.seen;
      }

  -- a refusal went to the list
  pub refusing : {m : Log Entry} {g h : Log Fault} {rest : List Event} {r : Refusal} {p k : ℕ}
      → Going l m f g all (refused r p ∷ rest) k → h ≡ put g (fault r p) → Going l m f h all rest (k + 1)
  refusing {m} {g} {h} {rest} {r} {p} {k} G is = record {
    sink = G.sink;
    faults = ap (λ (x : Log Fault). put_all x (met m.room rest)) is ∙ G.faults;
    number = G.number;
    seen = omega (arith, G.seen);
  }

-- what a decode comes to
pub record Done (l m : Log Entry) (f g : Log Fault) (all : List Event) (number found : ℕ) : Type 0 where
  pub sink : m ≡ put_all l (records all)
  pub faults : g ≡ put_all f (met l.room all)
  pub answers : number ≡ verdict l.room all
  pub seen : found ≡ length (met l.room all)

module _ {l m : Log Entry} {f g : Log Fault} {all : List Event} where
  pub ended : {k : ℕ} → Going l m f g all [] k → Done l m f g all 0 k
  ended G = record { sink = G.sink; faults = G.faults; answers = G.number; seen = omega (arith, G.seen) }

met-none : (n : ℕ) (p : ℕ) (e : Entry) (rest : List Event) → n ≡ 0 → met n (logged p e ∷ rest) ≡ fault NoRoom p ∷ []
met-none n p e rest z = ap (λ j. met j (logged p e ∷ rest)) z

verdict-none : (n : ℕ) (p : ℕ) (e : Entry) (rest : List Event) → n ≡ 0 → verdict n (logged p e ∷ rest) ≡ 14
verdict-none n p e rest z = ap (λ j. verdict j (logged p e ∷ rest)) z

full_keeps : (m : Log Entry) (xs : List Entry) → m.room ≡ 0 → put_all m xs ≡ m
full_keeps m xs z =
    let e : m ≡ log m.entries 0 = ap (log m.entries) z in
    ap (λ (x : Log Entry). put_all x xs) e ∙ full m.entries xs ∙ sym e

module _ {l m : Log Entry} {f g h : Log Fault} {all rest : List Event} {p k : ℕ} {e : Entry} where
  -- no room for the next record
  pub filled : Going l m f g all (logged p e ∷ rest) k → m.room ≡ 0 → h ≡ put g (fault NoRoom p) → Done l m f h all 14 (k + 1)
  filled G z is =
      let em = met-none m.room p e rest z in
      record {
        sink = sym (full_keeps m (e ∷ records rest) z) ∙ G.sink;
        faults = is ∙ ap (put_all g) (sym em) ∙ G.faults;
        answers = sym (verdict-none m.room p e rest z) ∙ G.number;
        seen = omega (arith, G.seen, ap length em);
      }
