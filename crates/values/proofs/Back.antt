-- A value that is written is read back.
use Rattle.std.proofs.Common.{◌≡◌, ℕ, suc, ◌-◌, ◌/◌, ◌%◌, ◌^◌, ◌<◌, ◌≤◌, Bool, true, false, cond, not, eqb, ltb, List, [], ◌∷◌, length, replicate, ℤ, pos, negsuc, nat_abs, Some, None, Option, sym, refl, ap, ◌∙◌, subst, arith, lit<, length-append}
use lib.ListN.{length-replicate}
use Rattle.std.specs.List.{AllByRecursion}
use Rattle.std.proofs.ByRecursion.{All-append}
use Rattle.std.proofs.lemmas.Bool.{cond-false, ltb-true, ne_eqb, and_parts}
use Rattle.quantity.specs.Amounts.{is_absent, holdable}
use Rattle.quantity.specs.Values.{stands_for}
use Rattle.values.specs.Numbers.{amount_of}
use Rattle.values.specs.Parts.{number, size, Digits, none, minus, signed, Writes}
use Rattle.values.specs.Writing.{digits, plain, size_text, figure, pad_left, figure_of, written, trim_start}
use Rattle.values.specs.Laws.{Held, Apart, Wide}
use Rattle.values.proofs.Digit.{digits_are, digits_say, plain_are, plain_say, plain_long, trim_start-pad, all_digits_lem}
use Rattle.values.proofs.Parts.{Mark, digit_marks, number_said, writes_says}

size_marks : (n : ℕ) → AllByRecursion Mark (size_text n)
size_marks n =
    All-append Mark (plain 8 (n / 10000)) (46 ∷ digits 4 (n % 10000)) (digit_marks _ (plain_are 8 (n / 10000)))
    ((omega arith, omega arith), digit_marks (digits 4 (n % 10000)) (digits_are 4 (n % 10000)))

pub figure-marks : (z : ℤ) → AllByRecursion Mark (figure z)
figure-marks (pos n) = size_marks n
figure-marks (negsuc n) = ((omega arith, omega arith), size_marks (suc n))

pub four_digits : (r : ℕ) → r < 10 ^ 4 → number (digits 4 r) ≡ r
four_digits r h = sym (number_said (digits 4 r)) ∙ digits_say 4 0 r h ∙ omega arith

size_figure : (n : ℕ) → n < 10 ^ 12 → size (plain 8 (n / 10000)) (digits 4 (n % 10000)) ≡ n
size_figure n h =
    let whole : number (plain 8 (n / 10000)) ≡ n / 10000 = sym (number_said (plain 8 (n / 10000))) ∙ plain_say 8 (n / 10000) (omega arith) in
    let rest : number (digits 4 (n % 10000)) ≡ n % 10000 = four_digits (n % 10000) (omega arith) in
    omega arith

pub plain_digits : (m : ℕ) → Digits 8 (plain 8 m)
plain_digits m = (all_digits_lem (plain 8 m) (plain_are 8 m), plain_long 8 m)

pub last_digits : (r : ℕ) → Digits 4 (digits 4 r)
last_digits r = (all_digits_lem (digits 4 r) (digits_are 4 r), omega arith)

pub figure_writes : (z : ℤ) → nat_abs z < 10 ^ 12 → Writes (figure z) z
figure_writes (pos n) h = record {
  sign = none;
  whole = plain 8 (n / 10000);
  fraction = Some (digits 4 (n % 10000));
  parts = refl;
  digits = plain_digits (n / 10000);
  decimals = last_digits (n % 10000);
  some = omega arith;
  says = ap pos (sym (size_figure n h));
}
figure_writes (negsuc n) h = record {
  sign = minus;
  whole = plain 8 (suc n / 10000);
  fraction = Some (digits 4 (suc n % 10000));
  parts = refl;
  digits = plain_digits (suc n / 10000);
  decimals = last_digits (suc n % 10000);
  some = omega arith;
  says = ap (signed minus) (sym (size_figure (suc n) h));
}

pub amount-figure : (z : ℤ) → nat_abs z < 10 ^ 12 → amount_of (figure z) ≡ Some z
amount-figure z h = writes_says (figure z) z (figure_writes z h)

-- a figure is read as it stands, so it is its own trimmed text and no two are alike
trim_start-marks : (xs : List ℕ) → AllByRecursion Mark xs → trim_start xs ≡ xs
trim_start-marks [] h = refl
trim_start-marks (c ∷ cs) h = cond-false (eqb c 32) _ (c ∷ cs) (ne_eqb c 32 (λ e. omega arith))

pub figure_of_lem : (v : Option ℤ) → figure_of v ≡ figure (stands_for v)
figure_of_lem None = refl
figure_of_lem (Some z) = refl

pub trimmed : (v : Option ℤ) → trim_start (written v) ≡ figure (stands_for v)
unfolding written
trimmed v =
    trim_start-pad (14 - length (figure_of v)) (figure_of v) ∙ ap trim_start (figure_of_lem v) ∙ trim_start-marks (figure (stands_for v)) (figure-marks (stands_for v))

pub small : (v : Option ℤ) → Held v → nat_abs (stands_for v) < 10 ^ 12
small None h = lit< tt
small (Some z) h = ltb-true _ _ (and_parts (ltb (nat_abs z) (10 ^ 12)) _ h).0

not-true : (b : Bool) → not b ≡ true → b ≡ false
not-true true e = sym e
not-true false e = refl

pub known : (z : ℤ) → holdable z ≡ true → is_absent z ≡ false
known z h = not-true (is_absent z) (and_parts (ltb (nat_abs z) (10 ^ 12)) _ h).1

-- the value that an amount stands for
abbrev pub standing : ℤ → Option ℤ
standing z = cond (is_absent z) None (Some z)

pub stands : (v : Option ℤ) → Held v → standing (stands_for v) ≡ v
stands None h = refl
stands (Some z) h = cond-false _ _ _ (known z h)

pub amount_back : (v : Option ℤ) → Held v → amount_of (trim_start (written v)) ≡ Some (stands_for v)
amount_back v h = ap amount_of (trimmed v) ∙ amount-figure (stands_for v) (small v h)

pub apart : Apart
apart v w hv hw e = sym (stands v hv) ∙ ap (λ o. elim o [ None ↦ None | Some z ↦ standing z ]) (sym (amount_back v hv) ∙ ap (λ l. amount_of (trim_start l)) e ∙ amount_back w hw) ∙ stands w hw

pad_left_long : (w : ℕ) (xs : List ℕ) → length xs ≤ w → length (pad_left w xs) ≡ w
pad_left_long w xs h =
    let r : length (replicate {A = ℕ} (w - length xs) 32) ≡ w - length xs = length-replicate (w - length xs) 32 in
    length-append (replicate (w - length xs) 32) xs ∙ omega arith

size_long : (n : ℕ) → length (size_text n) ≤ 13
size_long n = simp length-append (omega (arith, plain_long 8 (n / 10000)))

figure_long : (z : ℤ) → length (figure z) ≤ 14
figure_long (pos n) = omega (arith, size_long n)
figure_long (negsuc n) = omega (arith, size_long (suc n))

pub wide : Wide
unfolding written
wide v = pad_left_long 14 (figure_of v) (subst (λ l. length l ≤ 14) (sym (figure_of_lem v)) (figure_long (stands_for v)))
