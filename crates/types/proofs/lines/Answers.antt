-- `lines` meets its contract: the constant table and the definition's list are the same by computation.
-- Assumes nothing.
use mathlib.Core.Path.{refl}
use Rattle.types.specs.Types.{types}
use Rattle.types.proofs.lines.Goals as goal

pub returns : goal.returns
unfolding types
returns c = refl
