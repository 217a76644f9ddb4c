-- `connect::connect_at` meets its contract.
-- Assumes nothing.
use mathlib.Core.Path.{sym, subst}
use mathlib.Core.List.{List}
use Prim.Native.Nat.{ℕ, ◌≤◌}
use Rattle.table.specs.Layout.{seats}
use Rattle.table.specs.Block.{Whole}
use Rattle.serve.proofs.BlockLaws.{lent_is, connected-lent}
use Rattle.serve.proofs.connect.connect_at.Goals as goal

pub connect-requires : goal.connect-requires
connect-requires c =
    subst (λ (b : List ℕ). (c.args.rows ≤ seats) × Whole b) (sym (lent_is _ _ _ _ c.block_of.ensures)) (c.requires.2, c.requires.3)

pub returns : goal.returns
returns c =
    connected-lent _ _ _ _ _ c.block_of.ensures c.requires.1 c.requires.0 c.args.rows _ c.connect.ensures
