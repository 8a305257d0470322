-- The items of a line stand in the text. Assumes nothing.
use Rattle.std.proofs.Common.{◌≡◌, ℕ, ◌+◌, ◌-◌, ◌≤◌, List, [], ◌∷◌, ◌++◌, length, take, drop, sym, refl, ap, ◌∙◌, subst, append_assoc, append-nil, add_assoc, add-zero, arith}
use Rattle.items.proofs.Ends.{body_parted}
use Rattle.items.proofs.Parting.{message_parted}
use Rattle.items.specs.declared.mark.Run.{Run}
use Rattle.items.specs.Parting.{Held, Parted, Trimmed, none, only, slash, some}
use Rattle.items.specs.Places.{ItemsStand, StandsIn}
use Rattle.reader.specs.Lines.{Piece}
use Rattle.std.proofs.lemmas.List.{drop_at, length-append, length_push, length-take-le, take-append-drop, take_at}
use Rattle.std.proofs.lemmas.List.Edits.{split_between}
use Rattle.std.specs.List.{AllByRecursion}

module _ (text : List ℕ) where
  -- the bytes stand in the text, between what is before and behind them
  record Amid (q : Piece) : Type 0 where
    front : List ℕ
    back : List ℕ
    whole : text ≡ front ++ (q.1 ++ back)
    place : q.0 ≡ length front

  amid : (q : Piece) → StandsIn text q → Amid q
  amid q h =
      let end : ℕ = q.0 + length q.1 in
      record {
        front = take q.0 text;
        back = drop end text;
        whole = split_between text q.0 end (omega arith) ∙ ap (λ l. take q.0 text ++ (l ++ drop end text)) (sym h.stands);
        place = sym (length-take-le q.0 text (omega (arith, h.within)));
      }

  stands : (q : Piece) → Amid q → StandsIn text q
  stands q h =
      let far : q.0 + length q.1 - q.0 ≡ length q.1 = omega arith in
      let tail : drop q.0 text ≡ q.1 ++ h.back = ap (drop q.0) h.whole ∙ drop_at h.front (q.1 ++ h.back) q.0 (sym h.place) in
      record {
        stands = sym (ap (λ k. take k (drop q.0 text)) far ∙ ap (take (length q.1)) tail ∙ take_at q.1 h.back (length q.1) refl);
        within = omega (arith, ap length h.whole, length-append h.front (q.1 ++ h.back), length-append q.1 h.back, h.place);
      }

  -- what stands inside such bytes
  inner : {p : ℕ} {bs : List ℕ} (front item back : List ℕ) → Amid (p, bs) → bs ≡ front ++ (item ++ back) → Amid (p + length front, item)
  inner {p = p} {bs = bs} front item back h e =
      record {
        front = h.front ++ front;
        back = back ++ h.back;
        whole =
            h.whole
            ∙ ap (λ l. h.front ++ (l ++ h.back)) e
            ∙ ap (λ l. h.front ++ l) (append_assoc front (item ++ back) h.back ∙ ap (λ l. front ++ l) (append_assoc item back h.back))
            ∙ sym (append_assoc h.front front (item ++ (back ++ h.back)));
        place = ap (λ k. k + length front) h.place ∙ sym (length-append h.front front);
      }

  -- a front of them
  front_of : {p : ℕ} {bs : List ℕ} (front back : List ℕ) → Amid (p, bs) → bs ≡ front ++ back → Amid (p, front)
  front_of {p = p} front back h e = subst (λ k. Amid (k, front)) (add-zero p) (inner [] front back h e)

  trimmed : {run : Run} {p : ℕ} {bs : List ℕ} (item : Piece) → Amid (p, bs) → Trimmed run p bs item → Amid item
  trimmed item h t = subst (λ k. Amid (k, item.1)) (sym t.place) (inner t.front item.1 t.back h t.whole)

  parted : {p : ℕ} {bs : List ℕ} {items : List Piece} → Amid (p, bs) → Parted p bs items → AllByRecursion (StandsIn text) items
  parted h (only {item = item} r t) = (stands item (trimmed item h t), tt)
  parted {p = p} h (slash piece {rest = rest} {item = item} r c t more) =
      let here = front_of piece (47 ∷ rest) h refl in
      let long : length (piece ++ 47 ∷ []) ≡ length piece + 1 = length_push piece 47 in
      let next : Amid (p + length piece + 1, rest) =
      subst (λ k. Amid (k, rest)) (ap (λ k. p + k) long ∙ sym (add_assoc p (length piece) 1))
      (inner (piece ++ 47 ∷ []) rest [] h (ap (λ l. piece ++ 47 ∷ l) (sym (append-nil rest)) ∙ sym (append_assoc piece (47 ∷ []) (rest ++ []))))
      in
      (stands item (trimmed item here t), parted next more)

  held : {p : ℕ} {bs : List ℕ} {items : List Piece} → Amid (p, bs) → Held p bs items → AllByRecursion (StandsIn text) items
  held h (none r) = tt
  held h (some n w) = parted h w

  -- the line from an offset on
  behind : (line : Piece) (from : ℕ) → StandsIn text line → from ≤ length line.1 → Amid (line.0 + from, drop from line.1)
  behind line from h le =
      let e = length-take-le from line.1 le in
      subst (λ k. Amid (line.0 + k, drop from line.1)) e
      (inner (take from line.1) (drop from line.1) [] (amid line h) (sym (take-append-drop from line.1) ∙ ap (λ l. take from line.1 ++ l) (sym (append-nil (drop from line.1)))))

pub items_stand : ItemsStand
items_stand = record {
  message = λ text line from h le. let w = message_parted (line.0 + from) (drop from line.1) in parted text (trimmed text w.0 (behind text line from h le) w.1.0) w.1.1;
  body = λ text line from h le. let w = body_parted (line.0 + from) (drop from line.1) in held text (front_of text w.0 w.1.0 (behind text line from h le) w.1.1.0) w.1.1.1.1;
}
