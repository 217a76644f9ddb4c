-- `put_named` meets its contract.
-- Assumes nothing.
use native.Mathlib.Omega.{arith}
use Rattle.lines.proofs.TextLaws.{length-decimal, wrote-more}
use Rattle.lines.proofs.put_named.Goals as goal

pub returns : goal.returns
returns c = wrote-more c.put_words-p.ensures c.put_decimal.ensures (omega (arith, c.put_words-p.ensures.after, length-decimal c.args.n, c.requires))
