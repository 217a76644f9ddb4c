-- `put_answer` meets its contract.
-- Assumes nothing.
use Rattle.std.proofs.Common.{arith}
use Rattle.lines.specs.Lines.{answer_line}
use Rattle.lines.proofs.TextLaws.{wrote-more}
use Rattle.lines.proofs.LinesLaws.{room}
use Rattle.lines.proofs.put_answer.Goals as goal

pub returns : goal.returns
unfolding answer_line
returns c =
    let two = wrote-more c.put_counts-a.ensures c.put_sheet-b.ensures (omega (arith, room)) in
    wrote-more two c.put_words.ensures (omega (arith, room))
