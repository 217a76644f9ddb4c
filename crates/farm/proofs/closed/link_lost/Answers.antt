-- `closed::link_lost` meets its contract.
-- Assumes nothing.
use mathlib.Core.Path.{ap, ◌∙◌}
use mathlib.Core.List.{[]}
use Rattle.model.specs.Farm.{Farm, quietly, with_line}
use Rattle.model.specs.Line.{cleared}
use Rattle.model.specs.Move.{link_gone}
use Rattle.table.specs.Block.{farm_of, Holds}
use Rattle.closing.proofs.DidLaws.{did_then, did-quietly}
use Rattle.farm.proofs.closed.link_lost.Goals as goal

pub returns : goal.returns
unfolding link_gone
returns c = let o = c.close_open in
    let w = c.clear.ensures in
    let h : Holds c.clear.new.b (cleared (with_line (farm_of o.new.b) [])) =
    record { is = w.is ∙ ap cleared c.clear_line.ensures.is; whole = w.whole }
    in
    did_then _ (λ (g : Farm). quietly (cleared (with_line g []))) o.ensures (did-quietly h)
