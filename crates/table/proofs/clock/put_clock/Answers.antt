-- `clock::put_clock` meets its contract.
-- Assumes nothing.
use Rattle.table.specs.Block.{clock_image}
use Rattle.table.proofs.BlockLaws.{clock-put}
use Rattle.table.proofs.clock.put_clock.Goals as goal

pub returns : goal.returns
unfolding clock_image
returns c = clock-put c.args.b.now _ c.requires c.args.c c.write16.ensures
