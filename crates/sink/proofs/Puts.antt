-- What is put into logs.
use Rattle.std.proofs.Common.{◌≡◌, ℕ, zero, suc, ◌+◌, ◌-◌, List, [], ◌∷◌, ◌++◌, ◌<◌, ◌==◌, cond, map, length, take, Ok, Err, Result, sym, refl, ap, ◌∙◌, append_assoc, append-nil, arith, MatchResult}
use lib.Seq.{take-nil}
use Rattle.std.proofs.lemmas.Bool.{cond-true, cond-false, eq-eqb, ne_eqb}
use Rattle.std.proofs.lemmas.List.{map_push}
use Rattle.slots.specs.declared.list.Full.{Full}
use Rattle.slots.specs.declared.list.Slots.{Slots}
use Rattle.slots.specs.Lists.{held, slots_room}
use Rattle.sink.specs.Logs.{Log, log, put, put_at, put_all, of_slots, TakesIn, put_number}

module _ {T : Type 0} where
  -- what `push` says is a put
  pub puts : {A E : Type 0} (r : Result A E) (f f' : Slots T) (x : T) (Z : Type 0)
      → MatchResult r (λ _. (held f' ≡ held f ++ x ∷ []) × (slots_room f' + 1 ≡ slots_room f) × Z) (λ _. (slots_room f ≡ 0) × (f' ≡ f))
      → of_slots f' ≡ put (of_slots f) x
  puts (Ok _) f f' x Z h =
      let e : suc (slots_room f') ≡ slots_room f = omega (arith, h.1) in
      ap (λ (l : List T). log l (slots_room f')) h.0 ∙ ap (λ (n : ℕ). put_at (held f) n x) e
  puts (Err _) f f' x Z h = ap of_slots h.1 ∙ ap (log (held f)) h.0 ∙ ap (λ (n : ℕ). put_at (held f) n x) (sym h.0)

  pub full : (h : List T) (xs : List T) → put_all (log h 0) xs ≡ log h 0
  full h [] = refl
  full h (x ∷ xs) = full h xs

pub takes_in : (T : Type 0) → TakesIn T
takes_in T h n [] = let a = append-nil h in let t = take-nil {A = T} n in let z : n - 0 ≡ n = omega arith in cc
takes_in T h zero (x ∷ xs) = let f = full h xs in let a = append-nil h in let z : 0 - suc (length xs) ≡ 0 = omega arith in cc
takes_in T h (suc n) (x ∷ xs) =
    let e = takes_in T (h ++ x ∷ []) n xs in let a = append_assoc h (x ∷ []) (take n xs) in let z : suc n - suc (length xs) ≡ n - length xs = omega arith in cc

-- a log that begins empty holds as many of what is put in as it has room for
pub taken : {T : Type 0} (before after : Log T) (room : ℕ) (xs : List T) → before.entries ≡ [] → before.room ≡ room → after ≡ put_all before xs → after.entries ≡ take room xs
taken before after room xs empty wide puts =
    ap (λ l. l.entries) (puts ∙ ap (λ h. put_all (log h before.room) xs) empty ∙ ap (λ n. put_all (log [] n) xs) wide ∙ takes_in _ [] room xs)

pub mapped_put : {T U : Type 0} (f : T → U) (h : List T) (n : ℕ) (x : T) → log (map f (put_at h n x).entries) (put_at h n x).room ≡ put_at (map f h) n (f x)
mapped_put f h zero x = refl
mapped_put f h (suc n) x = ap (λ l. log l n) (map_push f h x)

-- whether a put went in says its number
pub numbered : {A : Type 0} (r : Result A Full) (n : ℕ) → MatchResult r (λ _. 0 < n) (λ _. n ≡ 0) → put_number r ≡ cond (n == 0) 14 0
numbered (Ok _) n h = sym (cond-false (n == 0) 14 0 (ne_eqb n 0 (λ z. omega arith)))
numbered (Err _) n h = sym (cond-true (n == 0) 14 0 (eq-eqb n 0 h))
