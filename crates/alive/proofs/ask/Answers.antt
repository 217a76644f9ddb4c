-- `ask` meets its contract.
-- Assumes nothing.
use native.Mathlib.Omega.{arith}
use Rattle.model.specs.Farm.{seat_count}
use Rattle.closing.proofs.DidLaws.{did_start, did_seat, did-all}
use Rattle.alive.proofs.ask.Goals as goal

pub loop-i-init : goal.loop-i-init
loop-i-init c = (did_start _ _ _ c.requires.1, omega arith)

pub loop-i-preserved : goal.loop-i-preserved
loop-i-preserved c = (did_seat _ _ _ c.loop-i.invariant.0 c.ask_if.ensures, omega arith)

pub returns : goal.returns
unfolding seat_count
returns c = did-all _ _ _ c.loop-i.invariant.0 c.loop-i.invariant.1 c.loop-i-test.false
