-- `whole_table::table_keeps` meets its contract.
-- Assumes nothing.
use mathlib.Core.Path.{refl, ◌∙◌}
use borrow.Author.Tests.{tests}
use Rattle.std.proofs.Common.{rules}
use Rattle.std.proofs.lemmas.Iterator.{YieldsList-from_range}
use Rattle.std.proofs.lemmas.Iterator.Search.{all_from_yields_List}
use Rattle.sheet.specs.Sheet.{most_farms}
use Rattle.decide.proofs.RangeLaws.{every_from}
use Rattle.rules.specs.Rules.{slot_keeps, table_keeps}
use Rattle.rules.proofs.whole_table.table_keeps.Goals as goal

pub returns : goal.returns
unfolding table_keeps
returns c =
    let s = c.args in
    all_from_yields_List (slot_keeps s.s.now s.t.now) _ _ _ c.all.ensures.ran (YieldsList-from_range 0 4 4 refl refl) (λ x b q k. search (rules, tests))
    ∙ every_from (slot_keeps s.s.now s.t.now) most_farms
