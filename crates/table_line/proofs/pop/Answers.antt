-- `pop` meets its contract.
-- Assumes nothing.
use native.Mathlib.Omega.{arith}
use Rattle.table_line.proofs.LineStores.{few, popped_stored}
use Rattle.table_line.proofs.pop.Goals as goal

pub overflow_cast-n : goal.overflow_cast-n
overflow_cast-n c = omega (arith, few c.args.b.now, c.waiting-n.ensures)

pub returns : goal.returns
returns c =
    let n = c.waiting-n in
    popped_stored c.args.b.now c.requires.1 _ c.put.new.out n.result c.requires.0 n.ensures c.put.ensures c.store.ensures
