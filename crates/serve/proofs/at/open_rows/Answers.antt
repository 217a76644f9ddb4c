-- `at::open_rows` meets its contract.
-- Assumes nothing.
use mathlib.Core.Path.{ap, ◌∙◌}
use mathlib.Core.List.{List}
use Prim.Native.Nat.{ℕ}
use Rattle.model.specs.Move.{open_rows}
use Rattle.table.specs.Block.{farm_of}
use Rattle.serve.proofs.BlockLaws.{lent_is}
use Rattle.serve.proofs.at.open_rows.Goals as goal

pub returns : goal.returns
returns c = c.open_rows.ensures ∙ ap (λ (b : List ℕ). open_rows (farm_of b)) (lent_is _ _ _ _ c.block_of.ensures)
