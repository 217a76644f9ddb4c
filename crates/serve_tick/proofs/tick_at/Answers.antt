-- `tick_at` meets its contract.
-- Assumes nothing.
use mathlib.Core.Path.{sym, subst}
use mathlib.Core.List.{List}
use Prim.Native.Nat.{ℕ}
use Rattle.model.specs.Move.{ticked}
use Rattle.table.specs.Block.{farm_of, Whole}
use Rattle.decide.specs.SiteSheet.{site_sheet}
use Rattle.closing.specs.Did.{RowsFit, Seated}
use Rattle.serve.proofs.BlockLaws.{lent_is, did-lent}
use Rattle.serve_tick.proofs.tick_at.Goals as goal

pub tick-requires : goal.tick-requires
tick-requires c = subst (λ (b : List ℕ). Seated (farm_of b).line × RowsFit c.args.site × Whole b) (sym (lent_is _ _ _ _ c.block_of.ensures))
    (c.requires.2, c.requires.3, c.requires.4)

pub returns : goal.returns
returns c = did-lent _ _ _ _ _ c.block_of.ensures c.requires.1 c.requires.0 _ _ (ticked (site_sheet c.args.site)) c.tick.ensures
