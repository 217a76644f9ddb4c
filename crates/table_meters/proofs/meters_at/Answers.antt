-- `meters_at` meets its contract.
-- Assumes nothing.
use Rattle.table.specs.Block.{farm_of}
use Rattle.table_meters.proofs.meters_at.Goals as goal

pub returns : goal.returns
unfolding farm_of
returns c = c.read_meters.ensures
