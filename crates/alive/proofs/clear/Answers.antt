-- `clear` meets its contract.
-- Assumes nothing.
use mathlib.Core.Path.{ap, ◌∙◌}
use Rattle.model.specs.Farm.{Farm, seat_count, no_marks, with_clock, with_marks}
use Rattle.table.specs.Block.{farm_of}
use Rattle.alive.proofs.clear.Goals as goal

pub returns : goal.returns
unfolding seat_count
returns c =
    let f : Farm = farm_of c.args.b.now in
    let m = c.put_marks.ensures in
    record { is = m.is ∙ ap (λ (g : Farm). with_marks g no_marks) (c.put_clock.ensures.is ∙ ap (with_clock f) c.fresh.ensures); whole = m.whole }
