-- `age_rows` meets its contract.
-- Assumes nothing.
use mathlib.Core.Path.{sym, ◌∙◌}
use native.Mathlib.Omega.{arith}
use Rattle.table.specs.Block.{farm_of}
use Rattle.farm_tick.proofs.TickLaws.{aged-none, aged_next, aged-all}
use Rattle.farm_tick.proofs.age_rows.Goals as goal

pub loop-i-init : goal.loop-i-init
loop-i-init c = (aged-none c.args.b.now c.requires, omega arith)

pub loop-i-preserved : goal.loop-i-preserved
loop-i-preserved c = (aged_next (farm_of c.args.b.now) c.loop-i.i c.loop-i.invariant.0 c.age_row.ensures, omega arith)

pub shape_of-b : goal.shape_of-b
shape_of-b c = c.loop-i.invariant.0.whole.long ∙ sym c.requires.long

pub returns : goal.returns
returns c = aged-all c.args.b.now c.loop-i.i (omega (arith, c.loop-i-test.false)) c.loop-i.invariant.0
