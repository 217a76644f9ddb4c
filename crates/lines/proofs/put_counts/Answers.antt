-- `put_counts` meets its contract.
-- Assumes nothing.
use Rattle.std.proofs.Common.{arith}
use Rattle.lines.specs.Lines.{counts_text}
use Rattle.lines.proofs.TextLaws.{wrote-more}
use Rattle.lines.proofs.LinesLaws.{room}
use Rattle.lines.proofs.put_counts.Goals as goal

pub returns : goal.returns
unfolding counts_text
returns c =
    let two = wrote-more c.put_decimal-a.ensures c.put_named-b.ensures (omega (arith, room)) in
    let three = wrote-more two c.put_named-c.ensures (omega (arith, room)) in
    wrote-more three c.put_words.ensures (omega (arith, room))
