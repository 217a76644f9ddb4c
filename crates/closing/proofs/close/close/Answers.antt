-- `close::close` meets its contract.
-- Assumes nothing.
use mathlib.Core.Path.{◌≡◌, ap, ◌∙◌}
use Rattle.kinds.specs.declared.Row.{Row}
use Rattle.model.specs.Row.{free_row, row_at, in_hand}
use Rattle.model.specs.Farm.{Farm, with_row, with_meters, lost_more, closed}
use Rattle.table.specs.Block.{farm_of}
use Rattle.closing.proofs.DidLaws.{did-says}
use Rattle.closing.proofs.close.close.Goals as goal

pub returns : goal.returns
unfolding closed
returns c =
    let s = c.args in
    let f : Farm = farm_of s.b.now in
    let r : Row = row_at f.rows s.i in
    let m = c.put_meters.ensures in
    let n : c.lost_by-n.result ≡ lost_more (in_hand r) f.meters =
    c.lost_by-n.ensures
    ∙ ap (λ (x : Row). lost_more (in_hand x) c.meters_at-m.result) c.row_at-row.ensures
    ∙ ap (lost_more (in_hand r)) c.meters_at-m.ensures
    in
    let e : farm_of c.put_meters.new.b ≡ with_meters (with_row f s.i free_row) (lost_more (in_hand r) f.meters) =
    m.is
    ∙ ap (λ (g : Farm). with_meters g c.lost_by-n.result) (c.put_row.ensures.is ∙ ap (with_row f s.i) c.row_of.ensures)
    ∙ ap (with_meters (with_row f s.i free_row)) n
    in
    did-says (record { is = e; whole = m.whole }) c.say.ensures
