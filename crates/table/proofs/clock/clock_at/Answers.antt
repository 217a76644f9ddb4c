-- `clock::clock_at` meets its contract.
-- Assumes nothing.
use mathlib.Core.Path.{ap, ◌∙◌}
use Rattle.kinds.specs.Clock.{clock_of}
use Rattle.table.proofs.BlockLaws.{clock_read}
use Rattle.table.proofs.clock.clock_at.Goals as goal

pub returns : goal.returns
returns c = ap clock_of c.read16.ensures ∙ clock_read c.args.b.now
