-- `closed::link_lost_at` meets its contract.
-- Assumes nothing.
use mathlib.Core.Path.{sym, subst}
use mathlib.Core.List.{List}
use Prim.Native.Nat.{ℕ}
use Rattle.model.specs.Move.{link_gone}
use Rattle.table.specs.Block.{Whole}
use Rattle.decide.specs.SiteSheet.{site_sheet}
use Rattle.closing.specs.Did.{RowsFit}
use Rattle.serve.proofs.BlockLaws.{lent_is, did-lent}
use Rattle.serve.proofs.closed.link_lost_at.Goals as goal

pub link_lost-requires : goal.link_lost-requires
link_lost-requires c =
    subst (λ (b : List ℕ). RowsFit c.args.site × Whole b) (sym (lent_is _ _ _ _ c.block_of.ensures))
    (c.requires.2, c.requires.3)

pub returns : goal.returns
returns c =
    did-lent _ _ _ _ _ c.block_of.ensures c.requires.1 c.requires.0 _ _ (link_gone (site_sheet c.args.site)) c.link_lost.ensures
