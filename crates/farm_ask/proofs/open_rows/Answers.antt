-- `open_rows` meets its contract.
-- Assumes nothing.
use mathlib.Core.Path.{refl, ◌∙◌}
use mathlib.Core.List.{List}
use borrow.Author.Tests.{tests}
use Rattle.std.proofs.Common.{rules}
use Rattle.std.proofs.lemmas.Iterator.{YieldsList-from_range}
use Rattle.std.proofs.lemmas.Iterator.Consumers.{YieldsList-from_filter, count_from_yields_List}
use Rattle.kinds.specs.declared.Row.{Row}
use Rattle.model.specs.Row.{free_row, row_at, is_open}
use Rattle.table.specs.Block.{farm_of}
use Rattle.decide.proofs.RowLaws.{nine}
use Rattle.decide.proofs.RangeLaws.{counted_from}
use Rattle.farm_ask.proofs.open_rows.Goals as goal

pub returns : goal.returns
returns c =
    let rows : List Row = (farm_of c.args.b.now).rows in
    count_from_yields_List _ _ c.count.ensures.ran
    (YieldsList-from_filter _ (λ k. is_open (row_at rows k)) (YieldsList-from_range 0 9 9 c.filter.ensures.source refl) c.filter.ensures.closure (λ x b q k. search (rules, tests)))
    ∙ counted_from is_open free_row rows 0 9 (nine c.args.b.now)
