use Rattle.std.proofs.Common.{◌≡◌, ℕ, ◌+◌, ◌-◌, ◌*◌, ◌<◌, ◌≤◌, List, [], ◌∷◌, length, get_or, take, drop, Some, None, Option, sym, ap, ◌∙◌, arith, MatchOption}
use Rattle.std.proofs.ByRecursion.{All-get_or}
use Rattle.record.specs.declared.record.Record.{Record}
use Rattle.record.specs.Entries.{Entry, entry}
use Rattle.record.specs.Validity.{Valid}
use Rattle.record.proofs.Valid.{valid}
use Rattle.line.specs.Lines.{line}
use Rattle.line.specs.Shown.{Shown}
use Rattle.line.proofs.Apart.{tells_apart}
use Rattle.line.proofs.Rows.{shown_at}
use Rattle.sink.specs.Listings.{showing}
use Rattle.sink.proofs.listing.keeps.ListingSink.read_back.Goals as goal

-- some entry, where there is one
first : (es : List Entry) (i : ℕ) → i < length es → Entry
first [] i h = absurd (omega arith)
first (e ∷ es) i h = e

at_place : (bytes : List ℕ) (count : ℕ) (s : Shown bytes count) (i : ℕ) → i < count → (l : List ℕ) → l ≡ take 80 (drop (80 * i) bytes) → (o : Option Record)
    → MatchOption o ((e : Entry) → Valid e → line e ≡ l → ⊥) (λ x. line (entry x) ≡ l)
    → MatchOption o (length s.entries ≤ i) (λ x. (i < length s.entries) × (entry x ≡ get_or s.entries i (entry x)))
at_place bytes count s i h l at None none =
    let d : Entry = first s.entries i (omega (arith, s.many)) in
    absurd (none (get_or s.entries i d) (All-get_or Valid s.entries i d (omega (arith, s.many)) s.valid) (sym (at ∙ shown_at bytes count s i d h)))
at_place bytes count s i h l at (Some x) e =
    let there : i < length s.entries = omega (arith, s.many) in
    (there, tells_apart (entry x) (get_or s.entries i (entry x)) (valid x) (All-get_or Valid s.entries i (entry x) there s.valid) (e ∙ at ∙ shown_at bytes count s i (entry x) h))

pub returns : goal.returns
returns c =
    let l = c.args.self.now in
    let i = c.args.place in
    let n : 80 * i + 80 - 80 * i ≡ 80 = omega arith in
    at_place l.bytes.now l.count (showing l) i c.if-place-self.false _ (ap (λ k. take k (drop (80 * i) l.bytes.now)) n) c.record_of.result c.record_of.ensures
