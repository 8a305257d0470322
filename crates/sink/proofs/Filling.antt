-- A line written behind the lines of a listing is one line more.
use Rattle.std.proofs.Common.{◌≡◌, ℕ, suc, ◌+◌, ◌-◌, ◌*◌, ◌≤◌, List, [], ◌∷◌, ◌++◌, length, take, drop, sym, ap, ◌∙◌, append_assoc, arith}
use borrow.Rule.Slice.PartMut.{put_mid}
use Rattle.std.proofs.lemmas.List.{drop-drop, take_at, drop_at, length-append, length-take-le, length-drop, flat_map_more}
use Rattle.std.proofs.ByRecursion.{All-push}
use Rattle.record.specs.Entries.{Entry}
use Rattle.record.specs.Validity.{Valid}
use Rattle.line.specs.Lines.{line}
use Rattle.line.specs.Shown.{Shown}
use Rattle.line.proofs.Cut.{line_long}
use Rattle.line.proofs.Rows.{same_entries}
use Rattle.sink.specs.declared.listing.Listing.{Listing}
use Rattle.sink.specs.Listings.{Longer, listed, showing, unwritten}
use Rattle.sink.specs.Logs.{log, put, put_at}

-- a line behind so many lines
abbrev pub with_line : List ℕ → ℕ → Entry → List ℕ
with_line d n e = take (80 * n) d ++ (line e ++ drop (80 * n + 80) d)

pub filled : (d ys : List ℕ) (at n : ℕ) (e : Entry) → at ≡ 80 * n → ys ≡ line e → put_mid at (at + 80 - at) d ys ≡ with_line d n e
filled d ys at n e a f =
    let next : at + (at + 80 - at) ≡ 80 * n + 80 = omega arith in
    ap (λ m. take at d ++ (ys ++ m)) (drop-drop (at + 80 - at) at d) ∙ (λ i. take (a i) d ++ (f i ++ drop (next i) d))

module _ (d o : List ℕ) (n : ℕ) (e : Entry) (v : Valid e) (room : 80 * n + 80 ≤ length d) (whole : o ≡ with_line d n e) where
  pub one_more : Shown d n → Shown o (n + 1)
  one_more s =
      let front : List ℕ = take (80 * n) d ++ line e in
      let long : length front ≡ 80 * (n + 1) = length-append (take (80 * n) d) (line e) ∙ omega (arith, length-take-le (80 * n) d (omega arith), line_long e v) in
      let split : o ≡ front ++ drop (80 * n + 80) d = whole ∙ sym (append_assoc (take (80 * n) d) (line e) (drop (80 * n + 80) d)) in
      record {
        entries = s.entries ++ e ∷ [];
        valid = All-push Valid s.entries e s.valid v;
        many = length-append s.entries (e ∷ []) ∙ ap (λ k. k + 1) s.many;
        text = ap (take (80 * (n + 1))) split ∙ take_at front _ (80 * (n + 1)) long ∙ ap (λ l. l ++ line e) s.text ∙ flat_map_more line [] s.entries e;
      }

  pub more_entries : (m : ℕ) → m ≡ n + 1 → (s : Shown d n) (t : Shown o m) → t.entries ≡ s.entries ++ e ∷ []
  unfolding one_more
  more_entries m h s t = same_entries t.entries (one_more s).entries t.valid (one_more s).valid (t.many ∙ h ∙ sym (one_more s).many) (sym t.text ∙ ap (λ k. take (80 * k) o) h ∙ (one_more s).text)

  pub same_long : length o ≡ length d
  same_long =
      ap length whole ∙ length-append (take (80 * n) d) _ ∙ ap (λ k. length (take (80 * n) d) + k) (length-append (line e) (drop (80 * n + 80) d))
      ∙ omega (arith, length-take-le (80 * n) d (omega arith), line_long e v, length-drop (80 * n + 80) d)

  pub behind_same : drop (80 * (n + 1)) o ≡ drop (80 * (n + 1)) d
  behind_same =
      let front : List ℕ = take (80 * n) d ++ line e in
      let next : 80 * n + 80 ≡ 80 * (n + 1) = omega arith in
      let long : length front ≡ 80 * (n + 1) = length-append (take (80 * n) d) (line e) ∙ omega (arith, length-take-le (80 * n) d (omega arith), line_long e v) in
      ap (drop (80 * (n + 1))) (whole ∙ sym (append_assoc (take (80 * n) d) (line e) (drop (80 * n + 80) d))) ∙ drop_at front _ (80 * (n + 1)) long ∙ ap (λ k. drop k d) next

-- a put where there is room
put_room : (h h' : List Entry) (m m' : ℕ) (x : Entry) → h' ≡ h ++ x ∷ [] → m ≡ m' + 1 → log h' m' ≡ put (log h m) x
put_room h h' m m' x e f = let s : suc m' ≡ m = omega arith in ap (λ l. log l m') e ∙ ap (λ k. put_at h k x) s

-- and where there is none
pub put_none : (h : List Entry) (m : ℕ) (x : Entry) → m ≡ 0 → log h m ≡ put (log h m) x
put_none h m x e = ap (log h) e ∙ ap (λ k. put_at h k x) (sym e)

module _ (s t : Listing) (e : Entry) (v : Valid e) (room : 80 * s.count + 80 ≤ length s.bytes.now) (count : t.count ≡ s.count + 1)
    (whole : t.bytes.now ≡ with_line s.bytes.now s.count e) where
  pub put_lists : listed t ≡ put (listed s) e
  put_lists =
      put_room (showing s).entries (showing t).entries (unwritten s) (unwritten t) e (more_entries s.bytes.now t.bytes.now s.count e v room whole t.count count (showing s) (showing t))
      (omega (arith, count, same_long s.bytes.now t.bytes.now s.count e v room whole))

  pub put_longer : t.bytes.ghost_name ≡ s.bytes.ghost_name → Longer s t
  put_longer lent = record {
    lent = lent;
    long = same_long s.bytes.now t.bytes.now s.count e v room whole;
    longer = omega (arith, count);
    behind = ap (λ n. drop (80 * n) t.bytes.now) count ∙ behind_same s.bytes.now t.bytes.now s.count e v room whole ∙ ap (λ n. drop (80 * n) s.bytes.now) (sym count);
  }
