-- `refused` meets its contract.
-- Assumes nothing.
use mathlib.Core.Path.{refl}
use Rattle.model.specs.Move.{no_row}
use Rattle.finish.proofs.refused.Goals as goal

pub returns : goal.returns
unfolding no_row
returns c = refl
