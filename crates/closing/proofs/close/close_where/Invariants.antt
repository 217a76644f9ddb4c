-- `close::close_where` meets its contract.
-- Assumes nothing.
use Prim.Native.Nat.{◌-◌, ◌≤◌}
use Rattle.model.specs.Farm.{closed_if}
use Rattle.model.proofs.Seats.{seats_to}
use Rattle.table.specs.Block.{farm_of}
use Rattle.decide.specs.SiteSheet.{site_sheet}
use Rattle.closing.specs.Did.{Did}
use Rattle.closing.proofs.close.close_where.Given as goal

abbrev pub invariant-loop-i : goal.invariant-loop-i
invariant-loop-i g l = Did l.initial.p l.b l.p (seats_to (closed_if (site_sheet l.site) g.test) (farm_of l.initial.b) l.i) × (l.i ≤ 9)

abbrev pub decreases-loop-i : goal.decreases-loop-i
decreases-loop-i g l = 9 - l.i
