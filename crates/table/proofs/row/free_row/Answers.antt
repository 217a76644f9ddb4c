-- `row::free_row` meets its contract.
-- Assumes nothing.
use mathlib.Core.Path.{refl}
use Rattle.model.specs.Row.{no_head}
use Rattle.table.proofs.row.free_row.Goals as goal

pub returns : goal.returns
unfolding no_head
returns c = refl
