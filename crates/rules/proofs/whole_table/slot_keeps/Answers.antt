-- `whole_table::slot_keeps` meets its contract.
-- Assumes nothing.
use mathlib.Core.Path.{refl, ap, ◌∙◌}
use mathlib.Core.List.{List}
use Prim.Native.Nat.{ℕ}
use native.Mathlib.Omega.{arith}
use Rattle.octets.specs.Choice.{both}
use Rattle.octets.specs.Parts.{part}
use Rattle.octets.proofs.PartsLaws.{part-between}
use Rattle.model.specs.FarmSheet.{slot_sheet}
use Rattle.model.specs.RuleTest.{good_farm}
use Rattle.table.specs.Layout.{block_size}
use Rattle.table.specs.Block.{farm_of, whole_block}
use Rattle.rules.specs.Rules.{slot_keeps}
use Rattle.rules.proofs.whole_table.slot_keeps.Goals as goal

pub returns : goal.returns
unfolding slot_keeps
returns c =
    let s = c.args in
    let at = c.block_of.result in
    c.block_keeps.ensures
    ∙ ap (λ (b : List ℕ). both (whole_block b) (good_farm (slot_sheet s.s.now s.f) (farm_of b)))
    (part-between s.t.now at.start at.end block_size (omega (arith, c.block_of.ensures.0, c.block_of.ensures.1))
    ∙ ap (λ (x : ℕ). part s.t.now x block_size) c.block_of.ensures.0)
