-- A table from its opening line on.
use Rattle.std.proofs.Common.{◌≡◌, ℕ, ◌+◌, Bool, true, false, cond, List, [], ◌∷◌, ◌++◌, length, drop, Ok, Err, Result, sym, refl, ap, ◌∙◌, subst, inl, inr, ◌⊎◌, append_assoc, append-nil, arith}
use Rattle.std.specs.List.{flat_map, AllByRecursion}
use Rattle.std.proofs.ByRecursion.{All-append, All-weaker}
use Rattle.std.proofs.lemmas.Bool.{true≢false}
use Rattle.merging.specs.Headers.{continued_items, header_items}
use Rattle.items.specs.Items.{message_items}
use Rattle.merging.specs.Merging.{Sided}
use Rattle.reader.specs.Kinds.{kind_of, is_continuation, readable}
use Rattle.reader.specs.Lines.{Piece, lines}
use Rattle.reader.specs.declared.kind.Form.{Form}
use Rattle.reader.specs.declared.kind.Form.TheVariants.{B}
use Rattle.reader.specs.declared.kind.LineKind.{LineKind}
use Rattle.reader.specs.declared.kind.LineKind.TheVariants.{Opening, Continuation, End, Dotted, Other}
use Rattle.record.specs.Entries.{Entry}
use Rattle.refusals.specs.declared.Fault.{Fault}
use Rattle.refusals.specs.declared.MessageRefusal.TheVariants as why
use Rattle.refusals.specs.declared.Refusal.TheVariants.{Message, Item}
use Rattle.terms.specs.Standing.{Standing}
use Rattle.events.specs.Events.{Event, fault, refused}
use Rattle.events.specs.Passing.{logged_all}
use Rattle.events.specs.Room.{refusals}
use Rattle.daylight.specs.Settings.{Setting}
use Rattle.messages.specs.Models.{Common, Reached, fresh}
use Rattle.logging.specs.Follow.{place_of, follow}
use Rattle.logging.specs.Own.{own_items}
use Rattle.openings.specs.Openings.{Opened, opened}
use Rattle.stages.specs.Stages.{Stage, outside, header, body, Moved, reads, refuses, onto, is_table, opens_to, begins, continues_as, continues, in_body, by_kind, came, within}
use Rattle.shef.specs.Texts.{is_opening, stretch, events}
use Rattle.laws.specs.Headings.{HeaderRead}
use Rattle.laws.specs.Outside.{NoOpening, NoContinuation, Continues}
use Rattle.laws.specs.Tables.{Plain}
use Rattle.laws.specs.TableTexts.{end_line, header_events, Header, items_of, line_events, LineReads, TablesRead}
use Rattle.laws.proofs.Anew.{from_line, from_header, body_lines}
use Rattle.laws.proofs.Counting.{plain_of, plain_front, Counted, all, upto, counted, table_fits}
use Rattle.laws.proofs.Heading.{headers_hold}
use Rattle.laws.proofs.Idle.{between, one_stretch}
use Rattle.laws.proofs.Naming.{table_form}
use Rattle.laws.proofs.Runs.{not_none}
use Rattle.laws.proofs.Totals.{plain_header, Keeps, opened_keeps}

-- items and lines of which no record comes: they lead on, or one is refused
data Quiet {Q : Type 0} (es : (Q → List Event) → List Event) : Type 0 where
  leads : (q : Q) → ((k : Q → List Event) → es k ≡ k q) → Quiet es
  stops : (f : Fault) → ((k : Q → List Event) → es k ≡ refused f.refusal f.place ∷ []) → Quiet es

-- the items of a header
module _ (S : Setting) (m : Common) (p : Reached) (xs : List Sided) where
  no_record : (ys : List (ℕ × Entry)) (q : Reached) → ((k : Reached → List Event) → follow S m p xs k ≡ logged_all ys ++ k q) → length ys ≡ 0 → Quiet (follow S m p xs)
  no_record [] q is none = leads q is
  no_record (y ∷ ys) q is none = absurd (omega arith)

  one_refused : (ys : List (ℕ × Entry)) (f : Fault) → ((k : Reached → List Event) → follow S m p xs k ≡ logged_all ys ++ refused f.refusal f.place ∷ []) → length ys ≡ 0 → Quiet (follow S m p xs)
  one_refused [] f is none = stops f is
  one_refused (y ∷ ys) f is none = absurd (omega arith)

  none_plain : plain_of xs ≡ 0 → Counted S m p xs → Quiet (follow S m p xs)
  none_plain bare (all ys q is many left) = no_record ys q is (omega arith)
  none_plain bare (upto read x more ys r parts is many) = one_refused ys (fault (Item r) (place_of x)) is (let part = ap plain_of parts in omega (arith, part, plain_front read (x ∷ more)))

quiet_items : (S : Setting) (m : Common) (p : Reached) (qs : List Piece) → is_table m.form ≡ true → Quiet (follow S m p (own_items B qs))
quiet_items S m p qs is = none_plain S m p (own_items B qs) (plain_header qs) (counted S m p (own_items B qs) (table_fits m.form is (own_items B qs)))

-- A line of a header leads to a header with its items read, or is refused.
data Led (S : Setting) (m : Common) (t : Standing) (hs : List Piece) (X : Moved) : Type 0 where
  onward : (q : Reached) (n : ℕ) → ((k : Stage → List Event) → came S X k ≡ k (header m t q n hs)) → HeaderRead S m t hs → Led S m t hs X
  fails : (f : Fault) → ((k : Stage → List Event) → came S X k ≡ refused f.refusal f.place ∷ []) → Led S m t hs X

-- A header leads to what lines come to behind it, or is refused, whatever they are.
data Headed (S : Setting) (m : Common) (t : Standing) (hs : List Piece) (es : ℕ → List Piece → List Event) : Type 0 where
  through : (q : Reached) (n : ℕ) → ((e : ℕ) (ls : List Piece) → es e ls ≡ within S e (header m t q n hs) ls) → HeaderRead S m t hs → Headed S m t hs es
  broken : (f : Fault) → ((e : ℕ) (ls : List Piece) → es e ls ≡ refused f.refusal f.place ∷ []) → Headed S m t hs es

-- the same by way of a line
lead_on : {S : Setting} {m : Common} {t : Standing} {hs : List Piece} {es fs : ℕ → List Piece → List Event} → ((e : ℕ) (ls : List Piece) → es e ls ≡ fs e ls) → Headed S m t hs fs → Headed S m t hs es
lead_on same (through q n so read) = through q n (λ e ls. same e ls ∙ so e ls) read
lead_on same (broken f so) = broken f (λ e ls. same e ls ∙ so e ls)

module _ (S : Setting) (m : Common) (t : Standing) (is : is_table m.form ≡ true) where
  -- a continuation
  module _ (p : Reached) (n : ℕ) (hs : List Piece) (read : HeaderRead S m t hs) (l : Piece) where
    abbrev goes : Reached → Stage
    goes q = header m t q (n + 1) (hs ++ continued_items l)

    abbrev Goes : Moved → Type 0
    Goes X = Led S m t (hs ++ continued_items l) X

    items_lead : Quiet (follow S m p (own_items B (continued_items l))) → Goes (reads m p (own_items B (continued_items l)) goes)
    items_lead (leads q so) = onward q (n + 1) (λ k. so (λ x. k (goes x))) (headers_hold.header S m t p hs (continued_items l) read (ap refusals (so (λ _. []))))
    items_lead (stops f so) = fails f (λ k. so (λ x. k (goes x)))

    continued : (f : Form) (v : Bool) → Goes (continues m t p n hs f v l)
    unfolding continues
    continued f v =
        let bad = refuses (fault (Message why.Unreadable) l.0) in
        let wrong = refuses (fault (Message why.Continuation) l.0) in
        let good : Goes (reads m p (own_items m.form (continued_items l)) goes) =
        subst (λ g. Goes (reads m p (own_items g (continued_items l)) goes)) (sym (table_form m.form is)) (items_lead (quiet_items S m p (continued_items l) is)) in
        let to = reads m p (own_items m.form (continued_items l)) goes in
        elim (readable l.1) as (λ b. Goes (cond b (cond (continues_as m n f v l.1) to wrong) bad)) [
          | true ↦ elim (continues_as m n f v l.1) as (λ b. Goes (cond b to wrong)) [ true ↦ good | false ↦ fails (fault (Message why.Continuation) l.0) (λ k. refl) ]
          | false ↦ fails (fault (Message why.Unreadable) l.0) (λ k. refl)
        ]

    line_led : (k : LineKind) → is_continuation k ≡ true → Goes (by_kind S (header m t p n hs) l k)
    line_led (Opening f v) h = absurd (true≢false (sym h))
    line_led (Continuation f v) h = continued f v
    line_led End h = absurd (true≢false (sym h))
    line_led Dotted h = absurd (true≢false (sym h))
    line_led Other h = absurd (true≢false (sym h))

  -- continuations one after the other
  one_more : (p : Reached) (n : ℕ) (hs : List Piece) (c : Piece) (cs : List Piece) → Led S m t (hs ++ continued_items c) (by_kind S (header m t p n hs) c (kind_of c.1))
      → ((q : Reached) (j : ℕ) → HeaderRead S m t (hs ++ continued_items c) → Headed S m t (header_items (hs ++ continued_items c) cs) (λ e ls. within S e (header m t q j (hs ++ continued_items c)) (cs ++ ls)))
      → Headed S m t (header_items (hs ++ continued_items c) cs) (λ e ls. within S e (header m t p n hs) (c ∷ cs ++ ls))
  one_more p n hs c cs (fails f so) more = broken f (λ e ls. so (λ τ. within S e τ (cs ++ ls)))
  one_more p n hs c cs (onward q j so read) more = lead_on (λ e ls. so (λ τ. within S e τ (cs ++ ls))) (more q j read)

  headed : (p : Reached) (n : ℕ) (hs cs : List Piece) → HeaderRead S m t hs → AllByRecursion Continues cs → Headed S m t (header_items hs cs) (λ e ls. within S e (header m t p n hs) (cs ++ ls))
  headed p n hs [] read cont = subst (λ h. Headed S m t h (λ e ls. within S e (header m t p n hs) ls)) (sym (append-nil hs)) (through p n (λ e ls. refl) read)
  headed p n hs (c ∷ cs) read cont =
      subst (λ h. Headed S m t h (λ e ls. within S e (header m t p n hs) (c ∷ cs ++ ls))) (append_assoc hs (continued_items c) (flat_map continued_items cs))
      (one_more p n hs c cs (line_led p n hs read c (kind_of c.1) cont.0) (λ q j r. headed q j (hs ++ continued_items c) cs r cont.1))

-- the opening line
module _ (S : Setting) (v : Bool) (l : Piece) (kind : kind_of l.1 ≡ Opening B v) where
  abbrev Fields : Result Opened Fault → Type 0
  Fields r = opened S.today B v l ≡ r

  -- without its fields it is refused
  no_fields : (f : Fault) → Fields (Err f) → (g : Fault) × ((k : Stage → List Event) → came S (begins S B v l) k ≡ refused g.refusal g.place ∷ [])
  unfolding begins
  no_fields f is =
      let bad = fault (Message why.Unreadable) l.0 in
      elim (readable l.1) as (λ b. (g : Fault) × ((k : Stage → List Event) → came S (cond b (opens_to B l (opened S.today B v l)) (refuses bad)) k ≡ refused g.refusal g.place ∷ [])) [
        | true ↦ (f, λ k. ap (λ r. came S (opens_to B l r) k) is)
        | false ↦ (bad, λ k. refl)
      ]

  stretch_fails : (f : Fault) → Fields (Err f) → (g : Fault) × ((e : ℕ) (ls : List Piece) → stretch S e (l, ls) ≡ refused g.refusal g.place ∷ [])
  stretch_fails f is = let r = no_fields f is in (r.0, λ e ls. ap (λ k. came S (by_kind S outside l k) (λ σ. within S e σ ls)) kind ∙ r.1 (λ σ. within S e σ ls))

  module _ (o : Opened) (is : Fields (Ok o)) where
    table_is : is_table o.common.form ≡ true
    table_is = ap is_table (subst (Keeps B) is (opened_keeps S.today B v l))

    abbrev own : List Piece
    own = message_items (l.0 + o.start) (drop o.start l.1)

    own_lead : Quiet (follow S o.common (fresh o.terms) (own_items B own)) → Led S o.common o.terms own (opens_to B l (Ok o))
    own_lead (leads q so) = onward q 0 (λ k. so (λ p. k (header o.common o.terms p 0 own))) (ap refusals (so (λ _. [])))
    own_lead (stops f so) = fails f (λ k. so (λ p. k (header o.common o.terms p 0 own)))

    opening_led : Led S o.common o.terms own (begins S B v l)
    unfolding begins
    opening_led =
        let bad = fault (Message why.Unreadable) l.0 in
        elim (readable l.1) as (λ b. Led S o.common o.terms own (cond b (opens_to B l (opened S.today B v l)) (refuses bad))) [
          | true ↦ subst (λ r. Led S o.common o.terms own (opens_to B l r)) (sym is) (own_lead (quiet_items S o.common (fresh o.terms) own table_is))
          | false ↦ fails bad (λ k. refl)
        ]

    with_continuations : (cs : List Piece) → AllByRecursion Continues cs → Led S o.common o.terms own (by_kind S outside l (Opening B v)) → Headed S o.common o.terms (items_of l o cs) (λ e ls. stretch S e (l, cs ++ ls))
    with_continuations cs cont (onward q n so read) =
        lead_on (λ e ls. ap (λ k. came S (by_kind S outside l k) (λ σ. within S e σ (cs ++ ls))) kind ∙ so (λ σ. within S e σ (cs ++ ls))) (headed S o.common o.terms table_is q n own cs read cont)
    with_continuations cs cont (fails f so) = broken f (λ e ls. ap (λ k. came S (by_kind S outside l k) (λ σ. within S e σ (cs ++ ls))) kind ∙ so (λ σ. within S e σ (cs ++ ls)))

    table_headed : (cs : List Piece) → AllByRecursion Continues cs → Headed S o.common o.terms (items_of l o cs) (λ e ls. stretch S e (l, cs ++ ls))
    table_headed cs cont = with_continuations cs cont opening_led

  module _ (cs : List Piece) (cont : AllByRecursion Continues cs) where
    refused_none : (f : Fault) → header_events S l cs ≡ refused f.refusal f.place ∷ [] → refusals (header_events S l cs) ≡ [] → ⊥
    refused_none f so none = not_none (sym (ap refusals so) ∙ none)

    read_of : {m : Common} {t : Standing} {hs : List Piece} → Headed S m t hs (λ e ls. stretch S e (l, cs ++ ls)) → refusals (header_events S l cs) ≡ [] → HeaderRead S m t hs
    read_of (through q n so read) none = read
    read_of (broken f so) none = absurd (refused_none f (so 0 (end_line ∷ [])) none)

    is_header : (r : Result Opened Fault) → Fields r → refusals (header_events S l cs) ≡ [] → (o : Opened) × (Header S l o cs × HeaderRead S o.common o.terms (items_of l o cs))
    is_header (Err f) is none = let r = stretch_fails f is in absurd (refused_none r.0 (r.1 0 (cs ++ end_line ∷ [])) none)
    is_header (Ok o) is none = (o, (record { opens = (v, (kind, is)); continued = cont; none = none }, read_of (table_headed o is cs cont) none))

    only_refused : {m : Common} {t : Standing} {hs : List Piece} → is_table m.form ≡ true → Headed S m t hs (λ e ls. stretch S e (l, cs ++ ls)) → (refusals (header_events S l cs) ≡ [] → ⊥)
        → (e : ℕ) (more : List Piece) → stretch S e (l, cs ++ more) ≡ header_events S l cs
    only_refused {m} {t} {hs} is (through q n so read) some e more = absurd (some (ap refusals (so 0 (end_line ∷ []) ∙ body_lines.table S 0 m t q n hs [] end_line [] is tt refl)))
    only_refused is (broken f so) some e more = so e more ∙ sym (so 0 (end_line ∷ []))

    is_refused : (r : Result Opened Fault) → Fields r → (refusals (header_events S l cs) ≡ [] → ⊥) → (e : ℕ) (more : List Piece) → stretch S e (l, cs ++ more) ≡ header_events S l cs
    is_refused (Err f) is some e more = let r = stretch_fails f is in r.1 e (cs ++ more) ∙ sym (r.1 0 (cs ++ end_line ∷ []))
    is_refused (Ok o) is some e more = only_refused (table_is o is) (table_headed o is cs cont) some e more

-- what comes behind a header
module _ (S : Setting) (l : Piece) (o : Opened) (cs : List Piece) (H : Header S l o cs) where
  abbrev hs : List Piece
  hs = items_of l o cs

  form : is_table o.common.form ≡ true
  form = table_is S H.opens.0 l H.opens.1.0 o H.opens.1.1

  head : Headed S o.common o.terms hs (λ e ls. stretch S e (l, cs ++ ls))
  head = table_headed S H.opens.0 l H.opens.1.0 o H.opens.1.1 cs H.continued

  read : HeaderRead S o.common o.terms hs
  read = read_of S H.opens.0 l H.opens.1.0 cs H.continued head H.none

  module _ (e : ℕ) where
    -- lines come to what they come to behind any header with these items
    by_stage : (es : List Event) (ls : List Piece) → ((q : Reached) (n : ℕ) → within S e (header o.common o.terms q n hs) ls ≡ es) → Headed S o.common o.terms hs (λ d xs. stretch S d (l, cs ++ xs)) → stretch S e (l, cs ++ ls) ≡ es
    by_stage es ls h (through q n so r) = so e ls ∙ h q n
    by_stage es ls h (broken f so) = absurd (refused_none S H.opens.0 l H.opens.1.0 cs H.continued f (so 0 (end_line ∷ [])) H.none)

    -- lines that are read, one at least, and then others
    behind_some : (q : Reached) (n : ℕ) (ls more : List Piece) (es : List Event) → (ls ≡ [] → ⊥) → AllByRecursion (LineReads S l o cs) ls → within S e (body o.common o.terms hs) more ≡ es
        → within S e (header o.common o.terms q n hs) (ls ++ more) ≡ flat_map (line_events S l o cs) ls ++ es
    behind_some q n [] more es some good b = absurd (some refl)
    behind_some q n (y ∷ ls) more es some good b = from_line S o.common o.terms hs e q n form y ls more es good b

    -- a continuation in the body
    late : (x : Piece) (rest : List Piece) (k : LineKind) → is_continuation k ≡ true → came S (by_kind S (body o.common o.terms hs) x k) (λ τ. within S e τ rest) ≡ refused (Message why.Unfinished) x.0 ∷ []
    late x rest (Opening f v) h = absurd (true≢false (sym h))
    late x rest (Continuation f v) h = refl
    late x rest End h = absurd (true≢false (sym h))
    late x rest Dotted h = absurd (true≢false (sym h))
    late x rest Other h = absurd (true≢false (sym h))

    module _ (ls : List Piece) (good : AllByRecursion (LineReads S l o cs) ls) where
      abbrev all_read : List Event
      all_read = flat_map (line_events S l o cs) ls

      -- lines that are read, and then others
      behind : (more : List Piece) (es : List Event) → ((q : Reached) (n : ℕ) → within S e (header o.common o.terms q n hs) more ≡ es) → within S e (body o.common o.terms hs) more ≡ es
          → stretch S e (l, cs ++ (ls ++ more)) ≡ all_read ++ es
      behind more es h b = by_stage (all_read ++ es) (ls ++ more) (λ q n. from_header S o.common o.terms hs e q n form ls more es good (h q n) b) head

      closed : (x : Piece) (rest : List Piece) → kind_of x.1 ≡ End → stretch S e (l, cs ++ (ls ++ x ∷ rest)) ≡ all_read ++ within S e outside rest
      closed x rest end = by_stage (all_read ++ within S e outside rest) (ls ++ x ∷ rest) (λ q n. body_lines.table S e o.common o.terms q n hs ls x rest form good end) head

      last : (x : Piece) (rest : List Piece) → Plain x → (refusals (line_events S l o cs x) ≡ [] → ⊥) → stretch S e (l, cs ++ (ls ++ x ∷ rest)) ≡ all_read ++ line_events S l o cs x
      last x rest plain some =
          let one = body_lines.last S e o.common o.terms hs x rest plain some in
          behind (x ∷ rest) (line_events S l o cs x) (λ q n. body_lines.first S e o.common o.terms q n hs x rest form plain ∙ one) one

      dotted : (x : Piece) (rest : List Piece) → (kind_of x.1 ≡ Dotted) ⊎ ((ls ≡ [] → ⊥) × Continues x) → stretch S e (l, cs ++ (ls ++ x ∷ rest)) ≡ all_read ++ refused (Message why.Unfinished) x.0 ∷ []
      dotted x rest (inl dot) =
          let m = o.common in
          let t = o.terms in
          behind (x ∷ rest) (refused (Message why.Unfinished) x.0 ∷ [])
          (λ q n. ap (λ k. came S (by_kind S (header m t q n hs) x k) (λ τ. within S e τ rest)) dot ∙ ap (λ b. came S (cond b (in_body m t hs x Dotted) (onto outside)) (λ τ. within S e τ rest)) form)
          (ap (λ k. came S (by_kind S (body m t hs) x k) (λ τ. within S e τ rest)) dot)
      dotted x rest (inr h) =
          let es = refused (Message why.Unfinished) x.0 ∷ [] in
          by_stage (all_read ++ es) (ls ++ x ∷ rest) (λ q n. behind_some q n ls (x ∷ rest) es h.0 good (late x rest (kind_of x.1) h.1)) head

      unclosed : stretch S e (l, cs ++ ls) ≡ all_read ++ refused (Message why.Unfinished) e ∷ []
      unclosed =
          ap (λ xs. stretch S e (l, cs ++ xs)) (sym (append-nil ls))
          ∙ behind [] (refused (Message why.Unfinished) e ∷ []) (λ q n. ap (λ b. cond b (refused (Message why.Unfinished) e ∷ []) []) form) refl

no_opening : (k : LineKind) → is_continuation k ≡ true → is_opening k ≡ false
no_opening (Opening f v) h = sym h
no_opening (Continuation f v) h = refl
no_opening End h = refl
no_opening Dotted h = refl
no_opening Other h = refl

module _ (S : Setting) (text : List ℕ) (l : Piece) (o : Opened) (cs ls : List Piece) (x : Piece) (rest : List Piece) (is : lines text ≡ l ∷ (cs ++ (ls ++ x ∷ rest))) where
  whole : Header S l o cs → AllByRecursion (LineReads S l o cs) ls → kind_of x.1 ≡ End → AllByRecursion NoOpening rest → AllByRecursion NoContinuation rest → events S text ≡ flat_map (line_events S l o cs) ls
  whole H good end os ns =
      let none : AllByRecursion NoOpening (cs ++ (ls ++ x ∷ rest)) =
      All-append NoOpening cs (ls ++ x ∷ rest) (All-weaker Continues NoOpening (λ c h. no_opening (kind_of c.1) h) cs H.continued)
      (All-append NoOpening ls (x ∷ rest) (All-weaker (LineReads S l o cs) NoOpening (λ y h. ap is_opening h.0) ls good) (ap is_opening end, os)) in
      one_stretch S text l (cs ++ (ls ++ x ∷ rest)) is none (ap is_opening H.opens.1.0)
      ∙ closed S l o cs H (length text) ls good x rest end
      ∙ ap (λ es. flat_map (line_events S l o cs) ls ++ es) (between S (length text) rest os ns)
      ∙ append-nil (flat_map (line_events S l o cs) ls)

pub tables_read : TablesRead
tables_read = record {
  header = λ S v l cs kind cont none. is_header S v l kind cs cont (opened S.today B v l) refl none;
  failed = λ S e v l cs more kind cont some. is_refused S v l kind cs cont (opened S.today B v l) refl some e more;
  closed = λ S e l o cs ls x rest H good end. closed S l o cs H e ls good x rest end;
  last = λ S e l o cs ls x rest H good plain some. last S l o cs H e ls good x rest plain some;
  dotted = λ S e l o cs ls x rest H good dot. dotted S l o cs H e ls good x rest dot;
  unclosed = λ S e l o cs ls H good. unclosed S l o cs H e ls good;
  own = λ S l o cs x H. headers_hold.body S o.common o.terms (items_of l o cs) x (read S l o cs H);
  whole = λ S text l o cs ls x rest is H good end os ns. whole S text l o cs ls x rest is H good end os ns;
}
