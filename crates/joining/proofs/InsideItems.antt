-- The items of a line end in it, and so do its number and its words. Assumes nothing.
use Rattle.std.proofs.Common.{◌≡◌, ℕ, ◌+◌, ◌-◌, ◌≤◌, Bool, true, false, cond, eqb, List, [], ◌∷◌, ◌++◌, length, take, drop, IfSome, Some, None, Option, ap, ◌∙◌, arith, length-append, MatchOption}
use Rattle.std.specs.Option.{option_map}
use Rattle.std.specs.List.{prefix_len, AllByRecursion}
use Rattle.std.proofs.lemmas.List.Edits.{length-between}
use Rattle.std.proofs.ByRecursion.{All-map, All-weaker}
use Rattle.std.proofs.lemmas.List.{length-drop, length_push, length-take}
use Rattle.std.proofs.lemmas.List.Sums.{prefix_len-le-length}
use Rattle.items.specs.declared.mark.Run.{Run}
use Rattle.items.specs.declared.mark.Run.TheVariants.{Blanks, Loose}
use Rattle.merging.specs.Headers.{behind_number, continued_items}
use Rattle.items.specs.Items.{trimmed, pieces, cut_items, message_items, is_blank, body_items}
use Rattle.items.specs.Marks.{after, body_len, edge, is_slash, mark_of, marks, passes}
use Rattle.merging.specs.Merging.{Sided, of_line, is_d, filled, answered, from_header}
use Rattle.items.specs.Parting.{Reads, WordFound}
use Rattle.items.specs.Words.{first_word}
use Rattle.items.proofs.Found.{words_found}
use Rattle.items.proofs.Scan.{length-marks}
use Rattle.reader.specs.Kinds.{kind_of, letters_of, blank_here, two_figures, figures, placed, is_continuation, continuation_of}
use Rattle.reader.specs.Lines.{Piece}
use Rattle.reader.specs.declared.kind.Continuation.{Continuation as Number}
use Rattle.reader.specs.declared.kind.Form.{Form}
use Rattle.reader.specs.declared.kind.Form.TheVariants.{A, B, E}
use Rattle.logging.specs.Own.{own_item, own_items}
use Rattle.text.specs.Signs.{digit, pair_of}
use Rattle.joining.proofs.InsideTurns.{Ends, PartEnds}

-- the number of a continuation
letters_end : (line : List ℕ) → letters_of line ≤ length line
letters_end [] = omega arith
letters_end (a ∷ []) = omega arith
letters_end (a ∷ b ∷ []) = omega arith
letters_end (a ∷ b ∷ c ∷ bs) = elim (eqb c 82) as (λ v. cond v 3 2 ≤ length (a ∷ b ∷ c ∷ bs)) [ true ↦ omega arith | false ↦ omega arith ]

abbrev FiguresEnd : List ℕ → Option (ℕ × ℕ) → Type 0
FiguresEnd bs o = IfSome o (λ n. n.1 ≤ length bs)

pair_ends : (a b c : ℕ) (cs : List ℕ) (o : Option ℕ) → FiguresEnd (a ∷ b ∷ c ∷ cs) (option_map (λ n. (n, 2)) o)
pair_ends a b c cs None = tt
pair_ends a b c cs (Some n) = omega arith

two_end : (a b : ℕ) (bs : List ℕ) → FiguresEnd (a ∷ b ∷ bs) (two_figures a b bs)
two_end a b [] = tt
two_end a b (c ∷ cs) = elim (blank_here c) as (λ v. FiguresEnd (a ∷ b ∷ c ∷ cs) (cond v (option_map (λ n. (n, 2)) (pair_of a b)) None)) [ true ↦ pair_ends a b c cs (pair_of a b) | false ↦ tt ]

one_ends : (a b : ℕ) (bs : List ℕ) → FiguresEnd (a ∷ b ∷ bs) (cond (digit a) (Some (a - 48, 1)) None)
one_ends a b bs = elim (digit a) as (λ v. FiguresEnd (a ∷ b ∷ bs) (cond v (Some (a - 48, 1)) None)) [ true ↦ omega arith | false ↦ tt ]

figures_end : (bs : List ℕ) → FiguresEnd bs (figures bs)
figures_end [] = tt
figures_end (a ∷ []) = tt
figures_end (a ∷ b ∷ bs) = elim (blank_here b) as (λ v. FiguresEnd (a ∷ b ∷ bs) (cond v (cond (digit a) (Some (a - 48, 1)) None) (two_figures a b bs))) [ true ↦ one_ends a b bs | false ↦ two_end a b bs ]

abbrev NumberEnds : List ℕ → Option Number → Type 0
NumberEnds line o = IfSome o (λ c. c.start ≤ length line)

placed_ends : (line : List ℕ) (letters : ℕ) (o : Option (ℕ × ℕ)) → letters ≤ length line → FiguresEnd (drop letters line) o → NumberEnds line (option_map (placed letters) o)
placed_ends line letters None le h = tt
placed_ends line letters (Some n) le h = omega (arith, length-drop letters line)

number_ends : (line : List ℕ) → NumberEnds line (continuation_of line)
number_ends line =
    elim (is_continuation (kind_of line)) as (λ v. NumberEnds line (cond v (option_map (placed (letters_of line)) (figures (drop (letters_of line) line))) None)) [
      | true ↦ placed_ends line (letters_of line) (figures (drop (letters_of line) line)) (letters_end line) (figures_end (drop (letters_of line) line))
      | false ↦ tt
    ]

-- the next word of a line from an offset on
abbrev pub WordEnds : List ℕ → ℕ → Option (ℕ × (List ℕ × List ℕ)) → Type 0
WordEnds line from o = IfSome o (λ w. from + w.0 + length w.1.0 ≤ length line)

found_ends : (line : List ℕ) (from : ℕ) (o : Option (ℕ × (List ℕ × List ℕ))) → MatchOption o (Reads Blanks false (drop from line)) (λ w. WordFound (drop from line) w) → WordEnds line from o
found_ends line from None h = tt
found_ends line from (Some w) h =
    let whole : length (drop from line) ≡ length h.front + (length w.1.0 + length w.1.1) =
    ap length h.whole ∙ length-append h.front (w.1.0 ++ w.1.1) ∙ ap (λ n. length h.front + n) (length-append w.1.0 w.1.1) in
    omega (arith, whole, h.lead, h.some, length-drop from line)

pub word_ends : (line : List ℕ) (from : ℕ) → WordEnds line from (first_word (drop from line))
word_ends line from = found_ends line from (first_word (drop from line)) (words_found (drop from line))

module _ (e : ℕ) where
  pieces_end : (p : ℕ) (part : List ℕ) (s : Bool) (xs : List ℕ) → p + length part + length xs ≤ e → AllByRecursion (Ends e) (pieces p part s xs)
  pieces_end p part s [] le = (omega arith, tt)
  pieces_end p part s (b ∷ bs) le =
      elim (is_slash (mark_of s b)) as (λ v. AllByRecursion (Ends e) (cond v ((p, part) ∷ pieces (p + length part + 1) [] (after s b) bs) (pieces p (part ++ b ∷ []) (after s b) bs))) [
        | true ↦ (omega arith, pieces_end (p + length part + 1) [] (after s b) bs (omega arith))
        | false ↦ pieces_end p (part ++ b ∷ []) (after s b) bs (omega (arith, length_push part b))
      ]

  trimmed_ends : (run : Run) (q : Piece) → Ends e q → Ends e (trimmed run q)
  trimmed_ends run q le =
      let ms = marks false q.1 in
      omega (arith, length-marks false q.1, prefix_len-le-length (passes run) ms, length-between q.1 (prefix_len (passes run) ms) (edge run ms) (omega (arith, length-marks false q.1)))

  cut_end : (q : Piece) → Ends e q → AllByRecursion (Ends e) (cut_items q)
  cut_end q le =
      let ps = pieces q.0 [] false q.1 in
      All-map (Ends e) (trimmed Blanks) ps (All-weaker (Ends e) (λ x. Ends e (trimmed Blanks x)) (trimmed_ends Blanks) ps (pieces_end q.0 [] false q.1 (omega arith)))

  items_end : (p : ℕ) (bs : List ℕ) → p + length bs ≤ e → AllByRecursion (Ends e) (message_items p bs)
  items_end p bs le = cut_end (trimmed Loose (p, bs)) (trimmed_ends Loose (p, bs) le)

  body_of : (p : ℕ) (bs : List ℕ) → p + length bs ≤ e → AllByRecursion (Ends e) (body_items p bs)
  body_of p bs le =
      let mid : List ℕ = take (body_len (marks false bs)) bs in
      elim (is_blank mid) as (λ v. AllByRecursion (Ends e) (cond v [] (cut_items (p, mid)))) [ true ↦ tt | false ↦ cut_end (p, mid) (omega (arith, length-take (body_len (marks false bs)) bs)) ]

  module _ (l : Piece) (le : Ends e l) where
    -- the items of a line from an offset on
    behind : (from : ℕ) → from ≤ length l.1 → l.0 + from + length (drop from l.1) ≤ e
    behind from h = omega (arith, length-drop from l.1)

    pub message_end : (from : ℕ) → from ≤ length l.1 → AllByRecursion (Ends e) (message_items (l.0 + from) (drop from l.1))
    message_end from h = items_end (l.0 + from) (drop from l.1) (behind from h)

    pub body_end : (from : ℕ) → from ≤ length l.1 → AllByRecursion (Ends e) (body_items (l.0 + from) (drop from l.1))
    body_end from h = body_of (l.0 + from) (drop from l.1) (behind from h)

    behind_end : (o : Option Number) → NumberEnds l.1 o → AllByRecursion (Ends e) (behind_number l o)
    behind_end None h = tt
    behind_end (Some c) h = message_end c.start h

    pub continued_end : AllByRecursion (Ends e) (continued_items l)
    continued_end = behind_end (continuation_of l.1) (number_ends l.1)

  filled_end : (qs : List Piece) → AllByRecursion (Ends e) qs → AllByRecursion (Ends e) (filled qs)
  filled_end [] h = tt
  filled_end (q ∷ qs) h = elim (eqb (length q.1) 0) as (λ v. AllByRecursion (Ends e) (cond v (filled qs) (q ∷ filled qs))) [ true ↦ filled_end qs h.1 | false ↦ (h.0, filled_end qs h.1) ]

  answered_end : (next : List Piece → List Sided) → ((ls : List Piece) → AllByRecursion (Ends e) ls → AllByRecursion (PartEnds e) (next ls)) → (ls : List Piece) → AllByRecursion (Ends e) ls → AllByRecursion (PartEnds e) (answered next ls)
  answered_end next k [] h = tt
  answered_end next k (l ∷ ls) h = (h.0, elim (is_d l.1) as (λ v. AllByRecursion (PartEnds e) (cond v (answered next ls) (next ls))) [ true ↦ answered_end next k ls h.1 | false ↦ k ls h.1 ])

  from_end : (hs ls : List Piece) → AllByRecursion (Ends e) hs → AllByRecursion (Ends e) ls → AllByRecursion (PartEnds e) (from_header hs ls)
  from_end [] ls g h = All-map (PartEnds e) of_line ls h
  from_end (x ∷ hs) ls g h = (
    g.0,
    elim (is_d x.1) as (λ v. AllByRecursion (PartEnds e) (cond v (from_header hs ls) (answered (from_header hs) ls))) [
      | true ↦ from_end hs ls g.1 h
      | false ↦ answered_end (from_header hs) (λ ks k. from_end hs ks g.1 k) ls h
    ],
  )

  pub header_end : (hs ls : List Piece) → AllByRecursion (Ends e) hs → AllByRecursion (Ends e) ls → AllByRecursion (PartEnds e) (from_header (filled hs) ls)
  header_end hs ls g h = from_end (filled hs) ls (filled_end hs g) h

  own_one : (f : Form) (q : Piece) → Ends e q → PartEnds e (own_item f q)
  own_one A q h = h
  own_one B q h = h
  own_one E q h = h

  pub own_end : (f : Form) (qs : List Piece) → AllByRecursion (Ends e) qs → AllByRecursion (PartEnds e) (own_items f qs)
  own_end f [] h = tt
  own_end f (q ∷ qs) h = (own_one f q h.0, own_end f qs h.1)
