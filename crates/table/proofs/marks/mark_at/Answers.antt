-- `marks::mark_at` meets its contract.
-- Assumes nothing.
use Rattle.table.proofs.MarkLaws.{mark_read}
use Rattle.table.proofs.marks.mark_at.Goals as goal

pub returns : goal.returns
returns c = mark_read c.args.b.now c.requires.1 c.args.seat c.requires.0
