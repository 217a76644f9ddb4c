-- `meters_at` meets its contract.
-- Assumes nothing.
use mathlib.Core.Path.{ap, ◌∙◌}
use mathlib.Core.List.{List}
use Prim.Native.Nat.{ℕ}
use Rattle.table.specs.Block.{farm_of}
use Rattle.serve.proofs.BlockLaws.{lent_is}
use Rattle.call_meters.proofs.meters_at.Goals as goal

pub returns : goal.returns
returns c = c.meters_at.ensures ∙ ap (λ (b : List ℕ). (farm_of b).meters) (lent_is _ _ _ _ c.block_of.ensures)
