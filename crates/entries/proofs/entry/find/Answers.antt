-- `entry::find` meets its contract.
-- Assumes nothing.
use Rattle.std.proofs.Common.{◌+◌, ◌*◌, length, refl, ◌∙◌, arith, le-ltb}
use Rattle.octets.specs.Numbers.{u16_at}
use Rattle.words.proofs.PickLaws.{no}
use Rattle.entries.proofs.EntryLaws.{spot_short, spot_cut, spot_at, spot_read}
use Rattle.entries.proofs.entry.find.Goals as goal

pub returns-in_err-long : goal.returns-in_err-long
returns-in_err-long c =
    let s = c.args.s.now in
    let f = c.in_ok-from.from in
    let there = c.in_ok-from.ensures in
    rw c.from_residual-in_err-long.ensures (
      no _ (le-ltb _ _ there.0)
          (spot_short (length s) f (u16_at s (f + 2)) (omega (arith, c.in_err-long.ensures)) ∙ spot_read s (2 * c.args.i + 4) f (u16_at s (f + 2)) there.1 refl),
      tt,
    )

pub returns-then-s-from : goal.returns-then-s-from
returns-then-s-from c =
    let s = c.args.s.now in
    let f = c.in_ok-from.from in
    let n = c.in_ok-long.long in
    let there = c.in_ok-from.ensures in
    let head = c.in_ok-long.ensures in (
      no _ (le-ltb _ _ there.0)
          (spot_cut (length s) f n (omega (arith, head.0)) c.if-s-from.true ∙ spot_read s (2 * c.args.i + 4) f n there.1 head.1),
      tt,
    )

pub returns : goal.returns
returns c =
    let s = c.args.s.now in
    let f = c.in_ok-from.from in
    let n = c.in_ok-long.long in
    let there = c.in_ok-from.ensures in
    let head = c.in_ok-long.ensures in (
      no _ (le-ltb _ _ there.0)
          (spot_at (length s) f n (omega (arith, head.0)) c.if-s-from.false ∙ spot_read s (2 * c.args.i + 4) f n there.1 head.1),
      c.if-s-from.false,
    )
