-- `age_rows` meets its contract.
-- Assumes nothing.
use Prim.Native.Nat.{◌-◌, ◌≤◌}
use Rattle.model.specs.Farm.{with_rows}
use Rattle.table.specs.Block.{farm_of, Holds}
use Rattle.farm_tick.proofs.TickLaws.{first_older}
use Rattle.farm_tick.proofs.age_rows.Given as goal

abbrev pub invariant-loop-i : goal.invariant-loop-i
invariant-loop-i l = Holds l.b (with_rows (farm_of l.initial.b) (first_older l.i (farm_of l.initial.b).rows)) × (l.i ≤ 9)

abbrev pub decreases-loop-i : goal.decreases-loop-i
decreases-loop-i l = 9 - l.i
