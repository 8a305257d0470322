-- What is written shows its amount: the digits without needless zeros are the decimal numeral.
use Rattle.std.proofs.Common.{◌≡◌, ℕ, suc, ◌-◌, ◌/◌, ◌%◌, ◌^◌, ◌<◌, ◌∷◌, ◌++◌, length, replicate, ℤ, pos, negsuc, nat_abs, Some, refl, ap, decimal, arith}
use Rattle.std.proofs.lemmas.Bool.{cond-true, cond-false, lt-ltb, le-ltb}
use Rattle.std.proofs.lemmas.Fmt.{decimal_from_appends, length-decimal-le}
use Rattle.values.specs.Writing.{digits, plain, figure, size_text, written}
use Rattle.values.specs.Laws.{Shows, ShowsAmounts, ShowsMissing}
use Rattle.values.proofs.Back.{four_digits, last_digits, small}

plain_decimal : (m : ℕ) → m < 10 ^ 8 → plain 8 m ≡ decimal m
plain_decimal m h =
    decimal_from_appends plain (record { one = λ k n l. cond-true _ _ _ (lt-ltb n 10 l); more = λ k n l. cond-false _ _ _ (le-ltb n 10 l) }) 8 m (omega arith)
    (length-decimal-le 8 m (omega arith) h (omega arith))

shows : (z : ℤ) → nat_abs z < 10 ^ 12 → Shows (written (Some z)) z
unfolding written
shows (pos n) h = record {
  blanks = 14 - length (size_text n);
  decimals = digits 4 (n % 10000);
  parts = ap (λ l. replicate (14 - length (size_text n)) 32 ++ (l ++ 46 ∷ digits 4 (n % 10000))) (plain_decimal (n / 10000) (omega arith));
  four = (refl, last_digits (n % 10000));
  says = four_digits (n % 10000) (omega arith);
}
shows (negsuc n) h = record {
  blanks = 14 - length (figure (negsuc n));
  decimals = digits 4 (suc n % 10000);
  parts = ap (λ l. replicate (14 - length (figure (negsuc n))) 32 ++ (45 ∷ (l ++ 46 ∷ digits 4 (suc n % 10000)))) (plain_decimal (suc n / 10000) (omega arith));
  four = (refl, last_digits (suc n % 10000));
  says = four_digits (suc n % 10000) (omega arith);
}

pub shows_amounts : ShowsAmounts
shows_amounts z h = shows z (small (Some z) h)

pub shows_missing : ShowsMissing
unfolding written
shows_missing = refl
