-- What a table of records leaves alone, and that it holds only valid entries.
use Rattle.std.specs.Prelude.{◌≡◌, ℕ, ◌+◌, ◌-◌, ◌≤◌, List, [], ◌∷◌, map, length, drop, refl}
use Rattle.std.proofs.Common.{sym, ap, ◌∙◌}
use Rattle.std.proofs.Math.Nat.{le_refl, le_trans, add-sub_of_le}
use Rattle.std.specs.List.{AllByRecursion}
use Rattle.std.proofs.lemmas.List.{drop-drop}
use Rattle.slots.specs.declared.list.Slots.{Slots}
use Rattle.record.specs.declared.record.Record.{Record}
use Rattle.record.specs.Entries.{entry}
use Rattle.record.specs.Validity.{Valid}
use Rattle.record.proofs.Valid.{valid}
use Rattle.sink.specs.Frames.{Ties}

-- t came from s: it lies in the same slots, has grown, and has not touched those behind what it holds
pub record Grown {T : Type 0} (s t : Slots T) : Type 0 where
  pub lent : t.items.ghost_name ≡ s.items.ghost_name
  pub long : length t.items.now ≡ length s.items.now
  pub longer : s.len ≤ t.len
  pub behind : drop t.len t.items.now ≡ drop t.len s.items.now

module _ {T : Type 0} where
  pub further : (m n : ℕ) (xs ys : List T) → m ≤ n → drop m xs ≡ drop m ys → drop n xs ≡ drop n ys
  further m n xs ys h e =
      let at : m + (n - m) ≡ n = add-sub_of_le h in
      ap (λ k. drop k xs) (sym at) ∙ sym (drop-drop (n - m) m xs) ∙ ap (drop (n - m)) e ∙ drop-drop (n - m) m ys ∙ ap (λ k. drop k ys) at

  pub grown_ties : Ties {S = Slots T} Grown
  grown_ties = record {
    stays = λ s. record { lent = refl; long = refl; longer = le_refl s.len; behind = refl };
    goes = λ s t u p q. record {
      lent = q.lent ∙ p.lent;
      long = q.long ∙ p.long;
      longer = le_trans p.longer q.longer;
      behind = q.behind ∙ further t.len u.len t.items.now s.items.now q.longer p.behind;
    };
  }

pub all_valid : (rs : List Record) → AllByRecursion Valid (map entry rs)
all_valid [] = tt
all_valid (r ∷ rs) = (valid r, all_valid rs)
