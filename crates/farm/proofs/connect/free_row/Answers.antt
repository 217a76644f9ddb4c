-- `connect::free_row` meets its contract.
-- Assumes nothing.
use mathlib.Core.Path.{refl, sym, ◌∙◌}
use mathlib.Core.List.{List}
use native.Mathlib.Omega.{arith}
use borrow.Author.Tests.{tests}
use Rattle.std.proofs.Common.{rules}
use Rattle.std.proofs.lemmas.Iterator.{YieldsList-from_range}
use Rattle.std.proofs.lemmas.Iterator.Adapters.{option_map_id}
use Rattle.std.proofs.lemmas.Iterator.Search.{find_from_yields_List}
use Rattle.kinds.specs.declared.Row.{Row}
use Rattle.model.specs.Row.{free_row, row_at, is_free}
use Rattle.table.specs.Block.{farm_of}
use Rattle.decide.proofs.RowLaws.{nine}
use Rattle.decide.proofs.RangeLaws.{found_among}
use Rattle.farm.proofs.connect.free_row.Goals as goal

pub returns : goal.returns
returns c =
    let s = c.args in
    let all : List Row = (farm_of s.b.now).rows in
    sym (option_map_id c.find.result)
    ∙ find_from_yields_List (λ k. is_free (row_at all k)) _ _ _ c.find.ensures.ran (YieldsList-from_range 0 s.rows s.rows refl (omega arith)) (λ x b q k. search (rules, tests))
    ∙ found_among is_free free_row all s.rows (omega (arith, c.requires.0, nine s.b.now))
