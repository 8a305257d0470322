-- What a listing holds, and what it leaves alone.
use Rattle.std.specs.Prelude.{◌≡◌, ℕ, ◌-◌, ◌*◌, ◌/◌, ◌≤◌, length, drop, refl}
use Rattle.std.proofs.Common.{◌∙◌}
use Rattle.std.proofs.Math.Nat.{le_refl, le_trans, mul-le-mul_left}
use Rattle.std.proofs.Math.Logic.{∥∥₁_elim}
use Rattle.std.specs.List.{AllByRecursion}
use Rattle.record.specs.Entries.{Entry}
use Rattle.record.specs.Validity.{Valid}
use Rattle.line.specs.Shown.{Shown}
use Rattle.line.proofs.Rows.{shown_prop}
use Rattle.sink.specs.declared.listing.Listing.{Listing}
use Rattle.sink.specs.Frames.{Ties}
use Rattle.sink.specs.Logs.{Log, log}
use Rattle.sink.specs.Tables.{further}

-- the whole lines that still fit
abbrev pub unwritten : Listing → ℕ
unwritten l = (length l.bytes.now - 80 * l.count) / 80

-- what its bytes show; they can be read in one way only
unfoldable pub showing : (l : Listing) → Shown l.bytes.now l.count
showing l = ∥∥₁_elim l.shown (shown_prop l.bytes.now l.count) (λ s. s)

abbrev pub listed : Listing → Log Entry
listed l = log (showing l).entries (unwritten l)

-- t came from s: it lies in the same bytes, has grown, and has not touched those behind its last line
pub record Longer (s t : Listing) : Type 0 where
  pub lent : t.bytes.ghost_name ≡ s.bytes.ghost_name
  pub long : length t.bytes.now ≡ length s.bytes.now
  pub longer : s.count ≤ t.count
  pub behind : drop (80 * t.count) t.bytes.now ≡ drop (80 * t.count) s.bytes.now

pub longer_ties : Ties {S = Listing} Longer
longer_ties = record {
  stays = λ s. record { lent = refl; long = refl; longer = le_refl s.count; behind = refl };
  goes = λ s t u p q. record {
    lent = q.lent ∙ p.lent;
    long = q.long ∙ p.long;
    longer = le_trans p.longer q.longer;
    behind = q.behind ∙ further (80 * t.count) (80 * u.count) t.bytes.now s.bytes.now (mul-le-mul_left 80 q.longer) p.behind;
  };
}

pub listing_valid : (l : Listing) → AllByRecursion Valid (listed l).entries
listing_valid l = (showing l).valid
