-- `again_after` meets its contract.
-- Assumes nothing.
use mathlib.Core.Path.{refl, ◌∙◌}
use mathlib.Core.List.{List}
use Prim.Native.Nat.{◌+◌, ◌-◌}
use native.Mathlib.Omega.{arith}
use lib.ListN.{length-drop}
use borrow.Author.Tests.{tests}
use Rattle.std.proofs.Common.{rules}
use Rattle.std.proofs.lemmas.Iterator.{YieldsList-from_range}
use Rattle.std.proofs.lemmas.Iterator.Search.{any_from_yields_List}
use Rattle.kinds.specs.declared.Row.{Row}
use Rattle.model.specs.Row.{free_row, row_at, active_as}
use Rattle.table.specs.Block.{farm_of}
use Rattle.decide.proofs.RowLaws.{nine}
use Rattle.decide.proofs.RangeLaws.{some_from}
use Rattle.row_tests.proofs.again_after.Goals as goal

pub returns : goal.returns
returns c =
    let s = c.args in
    let rows : List Row = (farm_of s.b.now).rows in
    any_from_yields_List (λ k. active_as s.address (row_at rows k)) _ _ _ c.any.ensures.ran (YieldsList-from_range (s.i + 1) 9 (9 - (s.i + 1)) refl refl) (λ x b q k. search (rules, tests))
    ∙ some_from (active_as s.address) free_row rows (s.i + 1) (9 - (s.i + 1)) (omega (arith, length-drop (s.i + 1) (farm_of s.b.now).rows, nine s.b.now))
