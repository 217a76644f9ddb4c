-- `read_meters` meets its contract.
-- Assumes nothing.
use Rattle.table.specs.Block.{meters_from}
use Rattle.table_meters.proofs.read_meters.Goals as goal

pub returns : goal.returns
unfolding meters_from
returns c = cc
