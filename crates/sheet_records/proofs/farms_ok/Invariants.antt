-- `farms_ok` meets its contract. The walk: the farms passed are good, and what is left of the rows and the rows passed make the most there may be.
-- Assumes nothing.
use mathlib.Core.Path.{◌≡◌}
use Prim.Native.Nat.{ℕ, ◌+◌, ◌<◌}
use Rattle.sheet.specs.Sheet.{most_rows}
use Rattle.sheet.specs.Rules.{GoodFarm}
use Rattle.sheet.specs.Rows.{first_row}
use Rattle.sheet_records.proofs.farms_ok.Given as goal

abbrev pub invariant-loop-i : goal.invariant-loop-i
invariant-loop-i l = (l.left + first_row l.s l.i ≡ most_rows) × ((f : ℕ) → f < l.i → GoodFarm l.s f)
