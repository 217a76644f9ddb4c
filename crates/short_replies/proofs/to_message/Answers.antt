-- `to_message` meets its contract: a number's two bytes are the high one and the low one.
-- Assumes nothing.
use native.Mathlib.Omega.{arith}
use Rattle.octets.proofs.NumbersLaws.{high16, low16}
use Rattle.short_replies.proofs.to_message.Goals as goal

pub returns : goal.returns
returns c =
    let k = c.to_be_bytes in
    let t = c.to_be_bytes-2 in
    let s = c.to_be_bytes-3 in
    cc (
      high16 _ _ k.ensures (omega arith),
      low16 _ _ k.ensures,
      high16 _ _ t.ensures (omega arith),
      low16 _ _ t.ensures,
      high16 _ _ s.ensures (omega arith),
      low16 _ _ s.ensures,
    )
