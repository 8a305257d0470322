-- The table of stages and kinds of line.
use Rattle.std.proofs.Common.{◌≡◌, ℕ, Bool, true, false, cond, List, [], ◌∷◌, ◌++◌, refl, ap, ◌∙◌}
use Rattle.reader.specs.Kinds.{kind_of}
use Rattle.reader.specs.Lines.{Piece}
use Rattle.reader.specs.declared.kind.LineKind.{LineKind}
use Rattle.reader.specs.declared.kind.LineKind.TheVariants.{Opening, Continuation, End, Dotted, Other}
use Rattle.refusals.specs.declared.Fault.{Fault}
use Rattle.terms.specs.Standing.{Standing}
use Rattle.events.specs.Events.{Event, refused}
use Rattle.daylight.specs.Settings.{Setting}
use Rattle.messages.specs.Models.{Common, Reached}
use Rattle.stages.specs.Stages.{Stage, outside, skipping, header, body, Moved, onto, refuses, is_table, begins, continues, body_line, in_body, by_kind, next, came, closing}
use Rattle.shef.specs.Decodes.{ends_here}
use Rattle.shef.specs.Texts.{is_opening, cut, stretches, to_come}
use Rattle.shef.proofs.Whole.{behind_line, to_come-line, to_come_skipping}
use Rattle.laws.specs.LineTable.{nothing, open_table, passes, closes, unfinished, nothing_to_continue, like_dotted, Row, LineTable}

-- a line of the kind k
module _ (S : Setting) (σ : Stage) where
  abbrev Cell : LineKind → (Piece → List Event) → (Piece → Moved) → Type 0
  Cell k ended to = (l : Piece) → kind_of l.1 ≡ k → (ends_here σ l ≡ ended l) × (next S σ l ≡ to l)

  cell : (k : LineKind) (ended : Piece → List Event) (to : Piece → Moved) → ((l : Piece) → cond (is_opening k) (closing σ l.0) [] ≡ ended l) → ((l : Piece) → by_kind S σ l k ≡ to l) → Cell k ended to
  cell k ended to a b l is = (ap (λ x. cond (is_opening x) (closing σ l.0) []) is ∙ a l, ap (by_kind S σ l) is ∙ b l)

outside_row : (S : Setting) → Row S outside nothing nothing_to_continue (passes outside) (passes outside) (passes outside)
outside_row S = record {
  at_opening = λ l f v. cell S outside (Opening f v) nothing (begins S f v) (λ x. refl) (λ x. refl) l;
  at_continuation = λ l f v. cell S outside (Continuation f v) nothing (nothing_to_continue f v) (λ x. refl) (λ x. refl) l;
  at_end = cell S outside End nothing (passes outside) (λ x. refl) (λ x. refl);
  at_dotted = cell S outside Dotted nothing (passes outside) (λ x. refl) (λ x. refl);
  at_other = cell S outside Other nothing (passes outside) (λ x. refl) (λ x. refl);
}

skipping_row : (S : Setting) → Row S skipping nothing (like_dotted (passes skipping)) (passes skipping) (passes skipping) (passes skipping)
skipping_row S = record {
  at_opening = λ l f v. cell S skipping (Opening f v) nothing (begins S f v) (λ x. refl) (λ x. refl) l;
  at_continuation = λ l f v. cell S skipping (Continuation f v) nothing (passes skipping) (λ x. refl) (λ x. refl) l;
  at_end = cell S skipping End nothing (passes skipping) (λ x. refl) (λ x. refl);
  at_dotted = cell S skipping Dotted nothing (passes skipping) (λ x. refl) (λ x. refl);
  at_other = cell S skipping Other nothing (passes skipping) (λ x. refl) (λ x. refl);
}

module _ (S : Setting) (m : Common) (t : Standing) (hs : List Piece) where
  body_row : Row S (body m t hs) open_table (like_dotted unfinished) closes unfinished (body_line m t hs)
  body_row = record {
    at_opening = λ l f v. cell S (body m t hs) (Opening f v) open_table (begins S f v) (λ x. refl) (λ x. refl) l;
    at_continuation = λ l f v. cell S (body m t hs) (Continuation f v) nothing unfinished (λ x. refl) (λ x. refl) l;
    at_end = cell S (body m t hs) End nothing closes (λ x. refl) (λ x. refl);
    at_dotted = cell S (body m t hs) Dotted nothing unfinished (λ x. refl) (λ x. refl);
    at_other = cell S (body m t hs) Other nothing (body_line m t hs) (λ x. refl) (λ x. refl);
  }

  module _ (p : Reached) (n : ℕ) where
    abbrev σ : Stage
    σ = header m t p n hs

    -- what an opening ends, and where a line that is neither an opening nor a continuation leads, if the message is a table and if not
    ends : (b : Bool) → is_table m.form ≡ b → (x : Piece) → closing σ x.0 ≡ cond b (open_table x) []
    ends b is x = ap (λ v. cond v (open_table x) []) is

    leads : (b : Bool) → is_table m.form ≡ b → (k : LineKind) (x : Piece) → cond (is_table m.form) (in_body m t hs x k) (onto outside) ≡ cond b (in_body m t hs x k) (onto outside)
    leads b is k x = ap (λ v. cond v (in_body m t hs x k) (onto outside)) is

    message_row : is_table m.form ≡ false → Row S σ nothing (continues m t p n hs) closes closes closes
    message_row is = record {
      at_opening = λ l f v. cell S σ (Opening f v) nothing (begins S f v) (ends false is) (λ x. refl) l;
      at_continuation = λ l f v. cell S σ (Continuation f v) nothing (continues m t p n hs f v) (λ x. refl) (λ x. refl) l;
      at_end = cell S σ End nothing closes (λ x. refl) (leads false is End);
      at_dotted = cell S σ Dotted nothing closes (λ x. refl) (leads false is Dotted);
      at_other = cell S σ Other nothing closes (λ x. refl) (leads false is Other);
    }

    header_row : is_table m.form ≡ true → Row S σ open_table (continues m t p n hs) closes unfinished (body_line m t hs)
    header_row is = record {
      at_opening = λ l f v. cell S σ (Opening f v) open_table (begins S f v) (ends true is) (λ x. refl) l;
      at_continuation = λ l f v. cell S σ (Continuation f v) nothing (continues m t p n hs f v) (λ x. refl) (λ x. refl) l;
      at_end = cell S σ End nothing closes (λ x. refl) (leads true is End);
      at_dotted = cell S σ Dotted nothing unfinished (λ x. refl) (leads true is Dotted);
      at_other = cell S σ Other nothing (body_line m t hs) (λ x. refl) (leads true is Other);
    }

module _ (S : Setting) (e : ℕ) (σ : Stage) (l : Piece) (ls : List Piece) where
  -- a line that leads to x
  leads_to : (x : Moved) → next S σ l ≡ x → to_come S e σ (l ∷ ls) ≡ ends_here σ l ++ (came S x (behind_line S e ls) ++ stretches S e (cut ls).1)
  leads_to x is = to_come-line S e σ l ls ∙ ap (λ y. ends_here σ l ++ (came S y (behind_line S e ls) ++ stretches S e (cut ls).1)) is

  refusing : (f : Fault) → next S σ l ≡ refuses f → to_come S e σ (l ∷ ls) ≡ ends_here σ l ++ refused f.refusal f.place ∷ to_come S e skipping ls
  refusing f is = leads_to (refuses f) is ∙ ap (λ (es : List Event). ends_here σ l ++ refused f.refusal f.place ∷ es) (to_come_skipping S e ls)

pub line_table : LineTable
line_table = record {
  outside_messages = outside_row;
  behind_refusal = skipping_row;
  in_message = λ S m t p n hs is. message_row S m t hs p n is;
  in_table_header = λ S m t p n hs is. header_row S m t hs p n is;
  in_table_body = body_row;
  passing = λ S e σ τ l ls is. leads_to S e σ l ls (onto τ) is;
  refusing = refusing;
  line = to_come-line;
}
