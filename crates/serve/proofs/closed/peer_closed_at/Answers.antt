-- `closed::peer_closed_at` meets its contract.
-- Assumes nothing.
use mathlib.Core.Path.{sym, subst}
use mathlib.Core.List.{List}
use Prim.Native.Nat.{ℕ, ◌<◌}
use Rattle.model.specs.Move.{peer_gone}
use Rattle.table.specs.Layout.{seats}
use Rattle.table.specs.Block.{farm_of, Whole}
use Rattle.decide.specs.SiteSheet.{site_sheet}
use Rattle.closing.specs.Did.{RowsFit, Seated}
use Rattle.serve.proofs.BlockLaws.{lent_is, did-lent}
use Rattle.serve.proofs.closed.peer_closed_at.Goals as goal

pub peer_closed-requires : goal.peer_closed-requires
peer_closed-requires c =
    subst
    (λ (b : List ℕ). (c.args.seat < seats) × Seated (farm_of b).line × RowsFit c.args.site × Whole b)
    (sym (lent_is _ _ _ _ c.block_of.ensures))
    (c.requires.2, c.requires.3, c.requires.4, c.requires.5)

pub returns : goal.returns
returns c =
    did-lent _ _ _ _ _ c.block_of.ensures c.requires.1 c.requires.0 _ _ (peer_gone (site_sheet c.args.site) c.args.seat) c.peer_closed.ensures
