-- `put::bytes` meets its contract.
-- Assumes nothing.
use native.Mathlib.Omega.{arith}
use Rattle.octets.proofs.SaysLaws.{refuted}
use Rattle.lines.proofs.TextLaws.{length-hex}
use Rattle.words.proofs.SaidLaws.{said-none, said_all}
use Rattle.words.proofs.put.bytes.Goals as goal

pub returns-then-not-has_room : goal.returns-then-not-has_room
returns-then-not-has_room c = said-none (λ h. refuted c.has_room.ensures (c.if-not-has_room.true) (omega (arith, h, length-hex c.args.bytes.now)))

pub returns : goal.returns
returns c = said_all (omega (arith, length-hex c.args.bytes.now, c.has_room.ensures.right (c.if-not-has_room.false))) c.put_hex.ensures c.put_hex.auto.out
