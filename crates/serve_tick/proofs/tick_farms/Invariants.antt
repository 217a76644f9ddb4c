-- `tick_farms` meets its contract.
-- Assumes nothing.
use Rattle.serve_tick.specs.Ticked.{TickedTo}
use Rattle.serve_tick.proofs.tick_farms.Given as goal

abbrev pub invariant-loop-i : goal.invariant-loop-i
invariant-loop-i l = TickedTo l.s l.initial.t l.i l.p l.t
