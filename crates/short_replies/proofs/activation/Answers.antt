-- `activation` meets its contract: a number's two bytes are the high one and the low one.
-- Assumes nothing.
use native.Mathlib.Omega.{arith}
use Rattle.octets.proofs.NumbersLaws.{high16, low16}
use Rattle.short_replies.proofs.activation.Goals as goal

pub returns : goal.returns
returns c =
    let a = c.to_be_bytes in
    let e = c.to_be_bytes-2 in
    cc (high16 _ _ a.ensures (omega arith), low16 _ _ a.ensures, high16 _ _ e.ensures (omega arith), low16 _ _ e.ensures)
