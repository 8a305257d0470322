-- Lines that may not be read.
use Rattle.std.proofs.Common.{◌≡◌, ◌≤◌, ℕ, ◌+◌, Bool, true, false, cond, leb, List, [], ◌∷◌, ◌++◌, length, sym, refl, ap, ◌∙◌}
use Rattle.std.specs.List.{AllByRecursion}
use Rattle.std.proofs.lemmas.Bool.{true≢false, leb-true, le-leb, and_parts, and_from}
use Rattle.reader.specs.Kinds.{kind_of, readable, printable, all_printable}
use Rattle.reader.specs.Lines.{Piece}
use Rattle.reader.specs.declared.kind.Form.{Form}
use Rattle.reader.specs.declared.kind.LineKind.{LineKind}
use Rattle.reader.specs.declared.kind.LineKind.TheVariants.{Opening, Continuation, End, Dotted, Other}
use Rattle.record.specs.Stations.{station_of}
use Rattle.refusals.specs.declared.MessageRefusal.TheVariants as why
use Rattle.refusals.specs.declared.Refusal.TheVariants.{Message}
use Rattle.terms.specs.Standing.{Standing}
use Rattle.events.specs.Events.{fault}
use Rattle.daylight.specs.Settings.{Setting}
use Rattle.items.specs.Items.{is_blank}
use Rattle.logging.specs.Own.{own_items}
use Rattle.merging.specs.Headers.{continued_items}
use Rattle.messages.specs.Models.{Common, Reached}
use Rattle.openings.specs.Openings.{field, opened}
use Rattle.stages.specs.Stages.{Stage, outside, skipping, header, body, Moved, onto, reads, refuses, opens_to, begins, continues_as, continues, line_of, body_line, by_kind, next, closing}
use Rattle.shef.specs.Decodes.{ends_here}
use Rattle.shef.specs.Texts.{is_opening}
use Rattle.laws.proofs.Table.{line_table}
use Rattle.laws.specs.Unreadable.{holds, UnreadableRefused}

-- which bytes may be read
abbrev Fit : ℕ → Type 0
Fit b = (32 ≤ b) × (b ≤ 126)

fit_bytes : (bs : List ℕ) → all_printable bs ≡ true → AllByRecursion Fit bs
fit_bytes [] h = tt
fit_bytes (b ∷ bs) h =
    let both = and_parts (printable b) (all_printable bs) h in
    let ends = and_parts (leb 32 b) (leb b 126) both.0 in
    ((leb-true 32 b ends.0, leb-true b 126 ends.1), fit_bytes bs both.1)

bytes_fit : (bs : List ℕ) → AllByRecursion Fit bs → all_printable bs ≡ true
bytes_fit [] h = refl
bytes_fit (b ∷ bs) h = and_from (printable b) (all_printable bs) (and_from (leb 32 b) (leb b 126) (le-leb 32 b h.0.0) (le-leb b 126 h.0.1)) (bytes_fit bs h.1)

fit : (line : List ℕ) → readable line ≡ true → (length line ≤ 1000) × AllByRecursion Fit line
fit line h = let both = and_parts (leb (length line) 1000) (all_printable line) h in (leb-true (length line) 1000 both.0, fit_bytes line both.1)

fits : (line : List ℕ) → length line ≤ 1000 → AllByRecursion Fit line → readable line ≡ true
fits line short h = and_from (leb (length line) 1000) (all_printable line) (le-leb (length line) 1000 short) (bytes_fit line h)

-- the refusal of a line
abbrev unfit : Piece → Moved
unfit l = refuses (fault (Message why.Unreadable) l.0)

module _ (l : Piece) (is : readable l.1 ≡ false) where
  opening_first : (S : Setting) (f : Form) (v : Bool) → begins S f v l ≡ unfit l
  unfolding begins
  opening_first S f v = ap (λ b. cond b (opens_to f l (opened S.today f v l)) (unfit l)) is

  module _ (m : Common) (t : Standing) (hs : List Piece) where
    continuation_first : (p : Reached) (n : ℕ) (f : Form) (v : Bool) → continues m t p n hs f v l ≡ unfit l
    unfolding continues
    continuation_first p n f v =
        ap
        (λ b. cond b (cond (continues_as m n f v l.1) (reads m p (own_items m.form (continued_items l)) (λ q. header m t q (n + 1) (hs ++ continued_items l))) (refuses (fault (Message why.Continuation) l.0))) (unfit l))
        is

    body_first : body_line m t hs l ≡ unfit l
    unfolding body_line
    body_first = ap (λ b. cond b (cond (is_blank l.1) (onto (body m t hs)) (line_of m t hs l (field why.Station station_of l 0))) (unfit l)) is

  first_of : (S : Setting) (σ : Stage) (k : LineKind) → holds σ k ≡ true → by_kind S σ l k ≡ unfit l
  first_of S σ (Opening f v) h = opening_first S f v
  first_of S outside (Continuation f v) h = absurd (true≢false (sym h))
  first_of S skipping (Continuation f v) h = absurd (true≢false (sym h))
  first_of S (header m t p n hs) (Continuation f v) h = continuation_first m t hs p n f v
  first_of S (body m t hs) (Continuation f v) h = absurd (true≢false (sym h))
  first_of S σ End h = absurd (true≢false (sym h))
  first_of S σ Dotted h = absurd (true≢false (sym h))
  first_of S outside Other h = absurd (true≢false (sym h))
  first_of S skipping Other h = absurd (true≢false (sym h))
  first_of S (header m t p n hs) Other h = ap (λ b. cond b (body_line m t hs l) (onto outside)) h ∙ body_first m t hs
  first_of S (body m t hs) Other h = body_first m t hs

-- a line of another kind goes by its place and its kind alone
module _ (S : Setting) (l : Piece) (line : List ℕ) where
  alike : (σ : Stage) (k : LineKind) → holds σ k ≡ false → by_kind S σ (l.0, line) k ≡ by_kind S σ l k
  alike σ (Opening f v) h = absurd (true≢false h)
  alike outside (Continuation f v) h = refl
  alike skipping (Continuation f v) h = refl
  alike (header m t p n hs) (Continuation f v) h = absurd (true≢false h)
  alike (body m t hs) (Continuation f v) h = refl
  alike outside End h = refl
  alike skipping End h = refl
  alike (header m t p n hs) End h = refl
  alike (body m t hs) End h = refl
  alike outside Dotted h = refl
  alike skipping Dotted h = refl
  alike (header m t p n hs) Dotted h = refl
  alike (body m t hs) Dotted h = refl
  alike outside Other h = refl
  alike skipping Other h = refl
  alike (header m t p n hs) Other h = ap (λ b. cond b (body_line m t hs (l.0, line)) (onto outside)) h ∙ sym (ap (λ b. cond b (body_line m t hs l) (onto outside)) h)
  alike (body m t hs) Other h = absurd (true≢false h)

  elsewhere : (σ : Stage) → holds σ (kind_of l.1) ≡ false → kind_of line ≡ kind_of l.1 → (next S σ (l.0, line) ≡ next S σ l) × (ends_here σ (l.0, line) ≡ ends_here σ l)
  elsewhere σ h is = (ap (by_kind S σ (l.0, line)) is ∙ alike σ (kind_of l.1) h, ap (λ k. cond (is_opening k) (closing σ l.0) []) is)

module _ (S : Setting) (σ : Stage) (l : Piece) (h : holds σ (kind_of l.1) ≡ true) (is : readable l.1 ≡ false) where
  first : next S σ l ≡ unfit l
  first = first_of l is S σ (kind_of l.1) h

pub unreadable_refused : UnreadableRefused
unreadable_refused = record {
  fit = fit;
  fits = fits;
  first = first;
  alone = λ S e σ l ls h is. line_table.refusing S e σ l ls (fault (Message why.Unreadable) l.0) (first S σ l h is);
  elsewhere = λ S σ l line h is. elsewhere S l line σ h is;
}
