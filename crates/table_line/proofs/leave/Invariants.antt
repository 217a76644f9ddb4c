-- `leave` meets its contract.
-- Assumes nothing.
use Rattle.table_line.proofs.LineStores.{Kept}
use Rattle.table_line.proofs.leave.Given as goal

abbrev pub invariant-loop-i : goal.invariant-loop-i
invariant-loop-i l = Kept l.seat l.s l.i l.t l.k
