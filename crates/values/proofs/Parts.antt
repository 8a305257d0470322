-- A text says an amount exactly where its parts write one.
use Rattle.std.proofs.Common.{◌≡◌, ℕ, suc, ◌+◌, ◌-◌, ◌*◌, ◌^◌, ◌<◌, ◌≤◌, Bool, true, false, cond, ◌&&◌, eqb, ltb, leb, List, [], ◌∷◌, ◌++◌, length, ℤ, Some, None, Option, sym, refl, ap, ◌∙◌, subst, ⊎_elim, length-append, add-mul, mul_assoc, mul_right_comm, pow-suc, arith}
use Rattle.std.specs.Option.{option_map}
use Rattle.std.specs.List.{AllByRecursion}
use Rattle.std.proofs.ByRecursion.{All-append, All-weaker}
use Rattle.std.proofs.lemmas.Bool.{cond-true, cond-false, and_parts, and_from, lt-ltb, ltb-true, le-leb, leb-true, eqb-true, ne_eqb, cases_Bool}
use Rattle.std.proofs.lemmas.Bool.Decides.{nat_tests}
use Rattle.std.proofs.lemmas.Option.{none-some, same_Some, cond_some}
use Rattle.values.specs.Numbers.{all_digits, said, numeral, before_point, behind_point, ten_thousandths, size_of, size_from, amount_of}
use Rattle.values.specs.Parts.{number, Digits, Sign, none, plus, minus, sign_text, signed, fraction_text, decimals_of, size, Writes, SaysWhatItWrites}
use Rattle.values.proofs.Digit.{Digit, before_digits, behind-digits}

said_number : (n : ℕ) (ds : List ℕ) → said n ds ≡ n * 10 ^ length ds + number ds
said_number n [] = omega arith
said_number n (d ∷ ds) =
    let p : ℕ = 10 ^ length ds in
    let up : n * 10 ^ suc (length ds) ≡ n * 10 * p = ap (λ x. n * x) (pow-suc 10 (length ds)) ∙ sym (mul_assoc n p 10) ∙ mul_right_comm n p 10 in
    said_number (n * 10 + (d - 48)) ds ∙ omega (arith, add-mul (n * 10) (d - 48) p, up)

pub number_said : (ds : List ℕ) → said 0 ds ≡ number ds
number_said ds = said_number 0 ds ∙ omega arith

pub digits_hold : (ds : List ℕ) → all_digits ds ≡ true → AllByRecursion Digit ds
digits_hold [] h = tt
digits_hold (d ∷ ds) h = let p = and_parts _ (all_digits ds) h in (grind (arith, nat_tests), digits_hold ds p.1)

numeral_is : (most : ℕ) (ds : List ℕ) → Digits most ds → numeral most ds ≡ Some (number ds)
numeral_is most ds h = cond-true _ _ _ (and_from _ _ h.0 (le-leb (length ds) most h.1)) ∙ ap Some (number_said ds)

-- from the parts to the amount

size_written : (whole : List ℕ) (f : Option (List ℕ)) → Digits 8 whole → Digits 4 (decimals_of f) → 0 < length whole + length (decimals_of f) → size_of (whole ++ fraction_text f) ≡ Some (size whole (decimals_of f))
size_written whole f w d some =
    let ds : List ℕ = decimals_of f in
    let are = digits_hold whole w.0 in
    ap (λ l. size_from l (behind_point (whole ++ fraction_text f))) (before_digits whole f are) ∙ ap (size_from whole) (behind-digits whole f are)
    ∙ cond-true _ _ _ (lt-ltb 0 (length whole + length ds) some) ∙ ap (λ o. ten_thousandths (length ds) o (numeral 4 ds)) (numeral_is 8 whole w) ∙ ap (ten_thousandths (length ds) (Some (number whole))) (numeral_is 4 ds d)

amount_written : (s : Sign) (whole : List ℕ) (f : Option (List ℕ)) → Digits 8 whole → Digits 4 (decimals_of f) → 0 < length whole + length (decimals_of f)
    → amount_of (sign_text s ++ (whole ++ fraction_text f)) ≡ Some (signed s (size whole (decimals_of f)))
amount_written plus whole f w d some = ap (option_map (signed plus)) (size_written whole f w d some)
amount_written minus whole f w d some = ap (option_map (signed minus)) (size_written whole f w d some)
amount_written none [] None w d some = absurd (omega arith)
amount_written none [] (Some ds) w d some = ap (option_map (signed none)) (size_written [] (Some ds) w d some)
amount_written none (c ∷ cs) f w d some =
    let is = (digits_hold (c ∷ cs) w.0).0 in
    cond-false _ _ _ (ne_eqb c 45 (λ e. omega arith)) ∙ cond-false _ _ _ (ne_eqb c 43 (λ e. omega arith)) ∙ ap (option_map (signed none)) (size_written (c ∷ cs) f w d some)

pub writes_says : (text : List ℕ) (z : ℤ) → Writes text z → amount_of text ≡ Some z
writes_says text z w = ap amount_of w.parts ∙ amount_written w.sign w.whole w.fraction w.digits w.decimals w.some ∙ ap Some (sym w.says)

-- from the amount to the parts

fraction_in : List ℕ → Option (List ℕ)
fraction_in [] = None
fraction_in (c ∷ cs) = cond (eqb c 46) (Some cs) (fraction_in cs)

cut_by : (b : Bool) (c : ℕ) (cs : List ℕ) → (b ≡ true → c ≡ 46) → cs ≡ before_point cs ++ fraction_text (fraction_in cs) → c ∷ cs ≡ cond b [] (c ∷ before_point cs) ++ fraction_text (cond b (Some cs) (fraction_in cs))
cut_by true c cs h e = ap (λ x. x ∷ cs) (h refl)
cut_by false c cs h e = ap (λ l. c ∷ l) e

cut : (cs : List ℕ) → cs ≡ before_point cs ++ fraction_text (fraction_in cs)
unfolding fraction_in
cut [] = refl
cut (c ∷ cs) = cut_by (eqb c 46) c cs (eqb-true c 46) (cut cs)

behind_by : (b : Bool) (cs : List ℕ) → decimals_of (fraction_in cs) ≡ behind_point cs → decimals_of (cond b (Some cs) (fraction_in cs)) ≡ cond b cs (behind_point cs)
behind_by true cs e = refl
behind_by false cs e = e

behind : (cs : List ℕ) → decimals_of (fraction_in cs) ≡ behind_point cs
unfolding fraction_in
behind [] = refl
behind (c ∷ cs) = behind_by (eqb c 46) cs (behind cs)

numeral_says : (most : ℕ) (ds : List ℕ) (x : ℕ) → numeral most ds ≡ Some x → Digits most ds × (number ds ≡ x)
numeral_says most ds x e =
    let p = cond_some (all_digits ds && leb (length ds) most) (said 0 ds) x e in
    let q = and_parts (all_digits ds) (leb (length ds) most) p.0 in
    ((q.0, leb-true (length ds) most q.1), sym (number_said ds) ∙ p.1)

record Scaled (k : ℕ) (whole decimals : Option ℕ) (n : ℕ) : Type 0 where
  units : ℕ
  rest : ℕ
  is_whole : whole ≡ Some units
  is_rest : decimals ≡ Some rest
  sum : n ≡ units * 10 ^ 4 + rest * 10 ^ (4 - k)

scaled : (k : ℕ) (whole decimals : Option ℕ) (n : ℕ) → ten_thousandths k whole decimals ≡ Some n → Scaled k whole decimals n
scaled k None o n e = absurd (none-some n e)
scaled k (Some x) None n e = absurd (none-some n e)
scaled k (Some x) (Some y) n e = record { units = x; rest = y; is_whole = refl; is_rest = refl; sum = sym (same_Some _ n e) }

granted : (b : Bool) (o : Option ℕ) (n : ℕ) → cond b o None ≡ Some n → (b ≡ true) × (o ≡ Some n)
granted true o n e = (refl, e)
granted false o n e = absurd (none-some n e)

-- what is left behind the sign
record Sized (cs : List ℕ) (n : ℕ) : Type 0 where
  whole : List ℕ
  fraction : Option (List ℕ)
  parts : cs ≡ whole ++ fraction_text fraction
  digits : Digits 8 whole
  decimals : Digits 4 (decimals_of fraction)
  some : 0 < length whole + length (decimals_of fraction)
  sum : n ≡ size whole (decimals_of fraction)

sized : (cs : List ℕ) (n : ℕ) → size_of cs ≡ Some n → Sized cs n
sized cs n e =
    let f : Option (List ℕ) = fraction_in cs in
    let ds : List ℕ = decimals_of f in
    let at : size_from (before_point cs) ds ≡ Some n = ap (size_from (before_point cs)) (behind cs) ∙ e in
    let g = granted (ltb 0 (length (before_point cs) + length ds)) (ten_thousandths (length ds) (numeral 8 (before_point cs)) (numeral 4 ds)) n at in
    let s = scaled (length ds) (numeral 8 (before_point cs)) (numeral 4 ds) n g.1 in
    let w = numeral_says 8 (before_point cs) s.units s.is_whole in
    let d = numeral_says 4 ds s.rest s.is_rest in
    record {
      whole = before_point cs;
      fraction = f;
      parts = cut cs;
      digits = w.0;
      decimals = d.0;
      some = ltb-true 0 (length (before_point cs) + length ds) g.0;
      sum = s.sum ∙ (λ i. sym w.1 i * 10 ^ 4 + sym d.1 i * 10 ^ (4 - length ds));
    }

behind_sign : (s : Sign) (cs text : List ℕ) (z : ℤ) (o : Option ℕ) → text ≡ sign_text s ++ cs → size_of cs ≡ o → option_map (signed s) o ≡ Some z → Writes text z
behind_sign s cs text z None is e h = absurd (none-some z h)
behind_sign s cs text z (Some n) is e h =
    let p = sized cs n e in
    record {
      sign = s;
      whole = p.whole;
      fraction = p.fraction;
      parts = is ∙ ap (λ l. sign_text s ++ l) p.parts;
      digits = p.digits;
      decimals = p.decimals;
      some = p.some;
      says = sym (same_Some _ z h) ∙ ap (signed s) p.sum;
    }

pub says_writes : (text : List ℕ) (z : ℤ) → amount_of text ≡ Some z → Writes text z
says_writes [] z e = absurd (none-some z e)
says_writes (c ∷ cs) z e = ⊎_elim
    (λ m. behind_sign minus cs (c ∷ cs) z (size_of cs) (ap (λ x. x ∷ cs) (eqb-true c 45 m)) refl (sym (cond-true _ _ _ m) ∙ e))
    (λ m. ⊎_elim
    (λ p. behind_sign plus cs (c ∷ cs) z (size_of cs) (ap (λ x. x ∷ cs) (eqb-true c 43 p)) refl (sym (cond-true _ _ _ p) ∙ sym (cond-false _ _ _ m) ∙ e))
    (λ p. behind_sign none (c ∷ cs) (c ∷ cs) z (size_of (c ∷ cs)) refl refl (sym (cond-false _ _ _ p) ∙ sym (cond-false _ _ _ m) ∙ e))
    (cases_Bool (eqb c 43)))
    (cases_Bool (eqb c 45))

pub says_what_it_writes : SaysWhatItWrites
says_what_it_writes text z = (says_writes text z, writes_says text z)

-- the signs of an amount: digits, a plus, a minus and a point
abbrev pub Mark : ℕ → Type 0
Mark c = (42 < c) × (c < 58)

pub digit_marks : (ds : List ℕ) → AllByRecursion Digit ds → AllByRecursion Mark ds
digit_marks ds h = All-weaker Digit Mark (λ c d. (omega arith, d.1)) ds h

sign_marks : (s : Sign) → AllByRecursion Mark (sign_text s)
sign_marks none = tt
sign_marks plus = ((omega arith, omega arith), tt)
sign_marks minus = ((omega arith, omega arith), tt)

fraction_marks : (f : Option (List ℕ)) → all_digits (decimals_of f) ≡ true → AllByRecursion Mark (fraction_text f)
fraction_marks None h = tt
fraction_marks (Some ds) h = ((omega arith, omega arith), digit_marks ds (digits_hold ds h))

fraction_long : (f : Option (List ℕ)) → length (decimals_of f) ≤ length (fraction_text f)
fraction_long None = omega arith
fraction_long (Some ds) = omega arith

module _ (text : List ℕ) (z : ℤ) (w : Writes text z) where
  pub marks_written : AllByRecursion Mark text
  marks_written =
      let rest = All-append Mark w.whole (fraction_text w.fraction) (digit_marks w.whole (digits_hold w.whole w.digits.0)) (fraction_marks w.fraction w.decimals.0) in
      subst (AllByRecursion Mark) (sym w.parts) (All-append Mark (sign_text w.sign) (w.whole ++ fraction_text w.fraction) (sign_marks w.sign) rest)

  pub some_written : 0 < length text
  some_written =
      let a = length-append (sign_text w.sign) (w.whole ++ fraction_text w.fraction) in
      let b = length-append w.whole (fraction_text w.fraction) in
      omega (arith, ap length w.parts, a, b, fraction_long w.fraction, w.some)
