-- `socket_rules` meets its contract.
-- Assumes nothing.
use mathlib.Core.Path.{sym, ◌∙◌}
use native.Mathlib.Omega.{arith}
use Rattle.model.specs.Row.{active_as}
use Rattle.table.specs.Block.{farm_of}
use Rattle.decide.proofs.RowLaws.{nine, found_below}
use Rattle.decide.proofs.socket_rules.Goals as goal

pub overflow_cast-result : goal.overflow_cast-result
overflow_cast-result c =
    let s = c.args in
    let k = found_below (active_as s.address) 0 (farm_of s.b.now).rows _ (sym c.holder.ensures ∙ c.in-Some.is) in
    omega (arith, k, nine s.b.now)
