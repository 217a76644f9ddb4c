-- `holder` meets its contract.
-- Assumes nothing.
use mathlib.Core.Path.{refl, sym, ◌∙◌}
use mathlib.Core.List.{List}
use borrow.Author.Tests.{tests}
use Rattle.std.proofs.Common.{rules}
use Rattle.std.proofs.lemmas.Iterator.{YieldsList-from_range}
use Rattle.std.proofs.lemmas.Iterator.Adapters.{option_map_id}
use Rattle.std.proofs.lemmas.Iterator.Search.{find_from_yields_List}
use Rattle.kinds.specs.declared.Row.{Row}
use Rattle.model.specs.Row.{free_row, row_at, active_as}
use Rattle.table.specs.Block.{farm_of}
use Rattle.decide.proofs.RowLaws.{nine}
use Rattle.decide.proofs.RangeLaws.{found_from}
use Rattle.decide.proofs.holder.Goals as goal

pub returns : goal.returns
returns c =
    let rows : List Row = (farm_of c.args.b.now).rows in
    sym (option_map_id c.find.result)
    ∙ find_from_yields_List (λ k. active_as c.args.address (row_at rows k)) _ _ _ c.find.ensures.ran (YieldsList-from_range 0 9 9 refl refl) (λ x b q k. search (rules, tests))
    ∙ found_from (active_as c.args.address) free_row rows 0 9 (nine c.args.b.now)
