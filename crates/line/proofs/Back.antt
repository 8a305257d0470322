-- Numbers and dates that are written are read back.
use Rattle.std.proofs.Common.{◌≡◌, ℕ, ◌+◌, ◌*◌, ◌/◌, ◌%◌, ◌<◌, Bool, true, cond, List, [], ◌∷◌, ◌++◌, get_or, Some, None, Option, ap, ◌∙◌, arith}
use Rattle.std.proofs.lemmas.Bool.{cond-true}
use Rattle.values.specs.Writing.{digits}
use Rattle.calendar.specs.Dates.{message_day}
use Rattle.calendar.proofs.Counting.{month_long}
use Rattle.calendar.proofs.Dates.{real_parts}
use Rattle.calendar.proofs.Nearest.{message_day_lem}
use Rattle.calendar.specs.declared.date.Date.{Date}
use Rattle.line.specs.Lines.{Writable, date_text, second_text, minute_text}

-- p is what two digits at a place say
abbrev pub Says : List ℕ → ℕ → ℕ → ℕ → Type 0
Says column i j p = (m : ℕ) → m < 100 → digits 2 m ≡ get_or column i 0 ∷ get_or column j 0 ∷ [] → p ≡ m

module _ (column : List ℕ) where
  pub at_pair : (i j p m : ℕ) → Says column i j p → m < 100 → 48 + m / 10 % 10 ≡ get_or column i 0 → 48 + m % 10 ≡ get_or column j 0 → p ≡ m
  at_pair i j p m says h e f = says m h (λ k. e k ∷ f k ∷ [])

  pub four_back : (p q n : ℕ) (rest : List ℕ) → Says column 0 1 p → Says column 2 3 q → n < 10000 → digits 4 n ++ rest ≡ column → p * 100 + q ≡ n
  four_back p q n rest s t h e =
      let at : (i : ℕ) → get_or (digits 4 n ++ rest) i 0 ≡ get_or column i 0 = λ i. ap (λ (l : List ℕ). get_or l i 0) e in
      let a0 : 48 + n / 10 / 10 / 10 % 10 ≡ get_or column 0 0 = at 0 in
      let a1 : 48 + n / 10 / 10 % 10 ≡ get_or column 1 0 = at 1 in
      let a2 : 48 + n / 10 % 10 ≡ get_or column 2 0 = at 2 in
      let a3 : 48 + n % 10 ≡ get_or column 3 0 = at 3 in
      let x : p ≡ n / 100 = at_pair 0 1 p (n / 100) s (omega arith) (omega arith) (omega arith) in
      let y : q ≡ n % 100 = at_pair 2 3 q (n % 100) t (omega arith) (omega arith) (omega arith) in
      omega arith

module _ (column : List ℕ) (d : Date) (rest : List ℕ) (fits : Writable d) (e : date_text d ++ rest ≡ column) where
  date_at : (i : ℕ) → get_or (date_text d ++ rest) i 0 ≡ get_or column i 0
  date_at i = ap (λ (l : List ℕ). get_or l i 0) e

  pub date_back : (y m k : ℕ) → ((n : ℕ) (rest : List ℕ) → n < 10000 → digits 4 n ++ rest ≡ column → y ≡ n) → Says column 4 5 m → Says column 6 7 k
      → ◌≡◌ {A = Date} (record { year = y; month = m; day = k }) d
  date_back y m k says s t =
      let a : y ≡ d.year = says d.year (digits 2 d.month ++ (digits 2 d.day ++ rest)) fits.0 e in
      let b : m ≡ d.month = at_pair column 4 5 m d.month s fits.1 (date_at 4) (date_at 5) in
      let c : k ≡ d.day = at_pair column 6 7 k d.day t fits.2 (date_at 6) (date_at 7) in
      λ i. record { year = a i; month = b i; day = c i }

-- the second of the day
pub second_back : (column : List ℕ) (t : Date × ℕ) (h m s : ℕ) → t.1 < 86400 → second_text t ≡ column → Says column 8 9 h → Says column 10 11 m → Says column 12 13 s → h * 3600 + m * 60 + s ≡ t.1
second_back column t h m s small e sh sm ss =
    let n : ℕ = t.1 in
    let at : (i : ℕ) → get_or (second_text t) i 0 ≡ get_or column i 0 = λ i. ap (λ (l : List ℕ). get_or l i 0) e in
    let a : h ≡ n / 3600 = at_pair column 8 9 h (n / 3600) sh (omega arith) (at 8) (at 9) in
    let b : m ≡ n / 60 % 60 = at_pair column 10 11 m (n / 60 % 60) sm (omega arith) (at 10) (at 11) in
    let c : s ≡ n % 60 = at_pair column 12 13 s (n % 60) ss (omega arith) (at 12) (at 13) in
    omega arith

-- the minute of the day
pub minute_back : (column : List ℕ) (t : Date × ℕ) (h m : ℕ) → t.1 < 1440 → minute_text t ≡ column → Says column 8 9 h → Says column 10 11 m → h * 60 + m ≡ t.1
minute_back column t h m small e sh sm =
    let n : ℕ = t.1 in
    let at : (i : ℕ) → get_or (minute_text t) i 0 ≡ get_or column i 0 = λ i. ap (λ (l : List ℕ). get_or l i 0) e in
    let a : h ≡ n / 60 = at_pair column 8 9 h (n / 60) sh (omega arith) (at 8) (at 9) in
    let b : m ≡ n % 60 = at_pair column 10 11 m (n % 60) sm (omega arith) (at 10) (at 11) in
    omega arith

-- a day of the years of messages can be shown
pub message_writable : (d : Date) → message_day d ≡ true → Writable d
message_writable d e =
    let r = real_parts d (message_day_lem d e).2 in
    (omega (arith, r.year), omega (arith, r.month_high), omega (arith, r.day_high, month_long d.year d.month))

-- what a checked constructor makes of a date and a number that are known
pub made : (ok : Date → ℕ → Bool) (d d' : Date) (s s' : ℕ) → d ≡ d' → s ≡ s' → ok d' s' ≡ true → cond {A = Option (Date × ℕ)} (ok d s) (Some (d, s)) None ≡ Some (d', s')
made ok d d' s s' e f h = (λ i. cond {A = Option (Date × ℕ)} (ok (e i) (f i)) (Some (e i, f i)) None) ∙ cond-true _ _ _ h
