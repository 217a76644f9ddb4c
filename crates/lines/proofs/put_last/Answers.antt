-- `put_last` meets its contract.
-- Assumes nothing.
use native.Mathlib.Omega.{arith}
use Rattle.lines.proofs.TextLaws.{wrote-more}
use Rattle.lines.proofs.LinesLaws.{length_last}
use Rattle.lines.proofs.put_last.Goals as goal

pub returns : goal.returns
returns c = wrote-more c.put_ending-a.ensures c.put_words.ensures (omega (arith, c.put_ending-a.ensures.after, length_last c.args.e, c.requires))
