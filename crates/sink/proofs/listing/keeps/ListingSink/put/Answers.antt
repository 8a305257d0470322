use Rattle.std.proofs.Common.{◌+◌, ◌*◌, ◌≤◌, length, refl, ◌∙◌, arith}
use mathlib.Core.Logic.{∥∥₁_map}
use Rattle.record.specs.Entries.{entry}
use Rattle.record.proofs.Valid.{valid}
use Rattle.sink.specs.Listings.{showing, unwritten}
use Rattle.sink.proofs.Filling.{filled, one_more, same_long, put_lists, put_longer, put_none}
use Rattle.sink.proofs.listing.keeps.ListingSink.put.Goals as goal

pub returns-then-self-at-lt-LINE_LENGTH-clause-holds : goal.returns-then-self-at-lt-LINE_LENGTH-clause-holds
returns-then-self-at-lt-LINE_LENGTH-clause-holds c =
    let s = c.args.self.now in
    put_none (showing s).entries (unwritten s) (entry c.args.record) (omega (arith, c.written-at.ensures, c.if-self-at-lt-LINE_LENGTH.true))

pub invariant_of-self : goal.invariant_of-self
invariant_of-self c =
    let s = c.args.self.now in
    let e = entry c.args.record in
    let v = valid c.args.record in
    let room : 80 * s.count + 80 ≤ length s.bytes.now = omega (arith, c.written-at.ensures, c.if-self-at-lt-LINE_LENGTH.false) in
    let whole = filled s.bytes.now _ _ s.count e c.written-at.ensures (c.copy_from_slice.ensures.after ∙ c.line_of.ensures) in
    record { fits = omega (arith, same_long s.bytes.now _ s.count e v room whole, room); shown = ∥∥₁_map s.shown (one_more s.bytes.now _ s.count e v room whole) }

pub returns-clause-holds : goal.returns-clause-holds
returns-clause-holds c =
    let s = c.args.self.now in
    let room : 80 * s.count + 80 ≤ length s.bytes.now = omega (arith, c.written-at.ensures, c.if-self-at-lt-LINE_LENGTH.false) in
    let whole = filled s.bytes.now _ _ s.count (entry c.args.record) c.written-at.ensures (c.copy_from_slice.ensures.after ∙ c.line_of.ensures) in
    put_lists s _ (entry c.args.record) (valid c.args.record) room refl whole

pub returns-clause-frame : goal.returns-clause-frame
returns-clause-frame c =
    let s = c.args.self.now in
    let room : 80 * s.count + 80 ≤ length s.bytes.now = omega (arith, c.written-at.ensures, c.if-self-at-lt-LINE_LENGTH.false) in
    let whole = filled s.bytes.now _ _ s.count (entry c.args.record) c.written-at.ensures (c.copy_from_slice.ensures.after ∙ c.line_of.ensures) in
    put_longer s _ (entry c.args.record) (valid c.args.record) room refl whole refl
