-- `connect::open_row` meets its contract.
-- Assumes nothing.
use mathlib.Core.Path.{ap, ◌∙◌}
use Rattle.kinds.specs.declared.Clock.{Clock}
use Rattle.kinds.specs.declared.RowState.TheVariants.{Fresh}
use Rattle.model.specs.Row.{row_of}
use Rattle.model.specs.Farm.{with_row}
use Rattle.table.specs.Block.{farm_of}
use Rattle.farm.proofs.connect.open_row.Goals as goal

pub returns : goal.returns
returns c = let s = c.args in
    let w = c.put_row.ensures in
    record {
      is = w.is ∙ ap (with_row (farm_of s.b.now) s.seat) (c.row_of.ensures ∙ ap (λ (x : Clock). row_of (Fresh x)) c.fresh.ensures);
      whole = w.whole;
    }
