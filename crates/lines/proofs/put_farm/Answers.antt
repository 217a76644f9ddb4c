-- `put_farm` meets its contract.
-- Assumes nothing.
use Rattle.std.proofs.Common.{arith}
use Rattle.lines.specs.Lines.{farm_line}
use Rattle.lines.proofs.TextLaws.{wrote-more}
use Rattle.lines.proofs.LinesLaws.{room}
use Rattle.lines.proofs.put_farm.Goals as goal

pub returns : goal.returns
unfolding farm_line
returns c =
    let two = wrote-more c.put_named-a.ensures c.put_named-b.ensures (omega (arith, room)) in
    let three = wrote-more two c.put_named-c.ensures (omega (arith, room)) in
    let four = wrote-more three c.put_named-d.ensures (omega (arith, room)) in
    wrote-more four c.put_words.ensures (omega (arith, room))
