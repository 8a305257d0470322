-- What a listing that was empty shows once records were put into it.
use Rattle.std.proofs.Common.{◌≡◌, ℕ, ◌*◌, List, [], length, take, drop, sym, refl, ap, ◌∙◌}
use Rattle.std.specs.List.{flat_map}
use Rattle.record.specs.Entries.{Entry}
use Rattle.line.specs.Lines.{line}
use Rattle.sink.specs.declared.listing.Listing.{Listing}
use Rattle.sink.specs.Listings.{Longer, listed, showing}
use Rattle.sink.specs.Logs.{put_all}
use Rattle.sink.proofs.Puts.{taken}

-- from s to t by records of which n go in; x are the bytes then
module _ (s t : Listing) (rs : List Entry) (n : ℕ) (x : List ℕ)
    (empty : (listed s).entries ≡ []) (puts : listed t ≡ put_all (listed s) rs) (into : n ≡ length (take (listed s).room rs)) (last : x ≡ t.bytes.now) where
  fitting : (showing t).entries ≡ take (listed s).room rs
  fitting = taken (listed s) (listed t) _ rs empty refl puts

  many : n ≡ t.count
  many = into ∙ sym (ap length fitting) ∙ (showing t).many

  pub lines-written : (room : ℕ) → (listed s).room ≡ room → take (80 * n) x ≡ flat_map line (take room rs)
  lines-written room e =
      ap (take (80 * n)) last ∙ ap (λ m. take (80 * m) t.bytes.now) many ∙ (showing t).text ∙ ap (flat_map line) fitting ∙ ap (λ m. flat_map line (take m rs)) e

  pub rest_kept : (bytes : List ℕ) → s.bytes.now ≡ bytes → Longer s t → drop (80 * n) x ≡ drop (80 * n) bytes
  rest_kept bytes e l =
      ap (drop (80 * n)) last ∙ ap (λ m. drop (80 * m) t.bytes.now) many ∙ l.behind ∙ ap (λ m. drop (80 * m) s.bytes.now) (sym many) ∙ ap (drop (80 * n)) e
