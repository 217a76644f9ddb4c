-- `at::is_open` meets its contract.
-- Assumes nothing.
use mathlib.Core.Path.{ap, ◌∙◌}
use mathlib.Core.List.{List}
use Prim.Native.Nat.{ℕ}
use Rattle.model.specs.Row.{row_at, is_open}
use Rattle.table.specs.Block.{farm_of}
use Rattle.serve.proofs.BlockLaws.{lent_is}
use Rattle.serve.proofs.at.is_open.Goals as goal

pub returns : goal.returns
returns c =
    c.is_open.ensures ∙ ap (λ (b : List ℕ). is_open (row_at (farm_of b).rows c.args.seat)) (lent_is _ _ _ _ c.block_of.ensures)
