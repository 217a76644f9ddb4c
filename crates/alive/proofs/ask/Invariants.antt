-- `ask` meets its contract.
-- Assumes nothing.
use Prim.Native.Nat.{◌-◌, ◌≤◌}
use Rattle.model.specs.Line.{asked_if}
use Rattle.model.proofs.Seats.{seats_to}
use Rattle.table.specs.Block.{farm_of}
use Rattle.decide.specs.SiteSheet.{site_sheet}
use Rattle.closing.specs.Did.{Did}
use Rattle.alive.proofs.ask.Given as goal

abbrev pub invariant-loop-i : goal.invariant-loop-i
invariant-loop-i l = Did l.initial.p l.b l.p (seats_to (asked_if (site_sheet l.site) l.check) (farm_of l.b) l.i) × (l.i ≤ 9)

abbrev pub decreases-loop-i : goal.decreases-loop-i
decreases-loop-i l = 9 - l.i
