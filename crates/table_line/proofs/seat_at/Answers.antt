-- `seat_at` meets its contract.
-- Assumes nothing.
use mathlib.Core.Path.{◌∙◌}
use native.Mathlib.Omega.{arith}
use Rattle.table_line.proofs.LineStores.{seat_read, no_seat, few}
use Rattle.table_line.proofs.seat_at.Goals as goal

pub overflow_add-k : goal.overflow_add-k
overflow_add-k c = omega (arith, few c.args.b.now, c.waiting.ensures)

pub bounds-b-k : goal.bounds-b-k
bounds-b-k c = omega (arith, few c.args.b.now, c.waiting.ensures)

pub returns-then-k-waiting : goal.returns-then-k-waiting
returns-then-k-waiting c = c.wide.ensures ∙ seat_read c.args.b.now c.args.k (omega (arith, c.waiting.ensures, c.if-k-waiting.true))

pub returns : goal.returns
returns c = no_seat c.args.b.now c.args.k (omega (arith, c.waiting.ensures, c.if-k-waiting.false))
