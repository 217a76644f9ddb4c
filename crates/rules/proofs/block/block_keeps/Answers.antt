-- `block::block_keeps` meets its contract.
-- Assumes nothing.
use mathlib.Core.Path.{sym, ap, ◌∙◌}
use Prim.Native.Nat.{ℕ, ◌+◌}
use borrow.Author.Tests.{ltb-true, ltb-false}
use Rattle.octets.proofs.SaysLaws.{says_same}
use Rattle.sheet.specs.Sheet.{farm_count}
use Rattle.table.specs.Block.{farm_of}
use Rattle.table_whole.proofs.WholeTest.{whole_says}
use Rattle.row_rules.proofs.FarmLaws.{farm_carried, none_carried}
use Rattle.rules.proofs.block.block_keeps.Goals as goal

pub returns-then-not-is_whole : goal.returns-then-not-is_whole
returns-then-not-is_whole c = let s = c.args in
    simp (sym (says_same c.is_whole.ensures (whole_says s.b.now c.requires.0)) ∙ c.if-not-is_whole.true)

pub site_of-own-requires : goal.site_of-own-requires
site_of-own-requires c = let s = c.args in
    (c.requires.1, ltb-true s.f.0 (farm_count s.s.now) (sym c.has_farm.ensures ∙ c.if-has_farm.true))

pub returns-then-has_farm : goal.returns-then-has_farm
returns-then-has_farm c = let s = c.args in
    simp (sym (says_same c.is_whole.ensures (whole_says s.b.now c.requires.0)) ∙ c.if-not-is_whole.false)
    (c.farm_keeps.ensures
    ∙ farm_carried s.s.now s.f.0 c.site_of-own.result (c.wide-rows.result + 1) (farm_of s.b.now) c.site_of-own.ensures (ap (λ (n : ℕ). n + 1) c.wide-rows.ensures))

pub returns : goal.returns
returns c = let s = c.args in
    simp (sym (says_same c.is_whole.ensures (whole_says s.b.now c.requires.0)) ∙ c.if-not-is_whole.false)
    (c.farm_keeps-2.ensures
    ∙ none_carried s.s.now s.f.0 c.requires.1 (ltb-false s.f.0 (farm_count s.s.now) (sym c.has_farm.ensures ∙ c.if-has_farm.false)) (farm_of s.b.now))
