-- `rows::owner_of` meets its contract. The walk: the owner among all farms is the owner among those left, the row counted from the first row of the next. A farm
-- has a row at least, so a farm's number is no higher than the row's.
-- Assumes nothing.
use mathlib.Core.Path.{◌≡◌}
use Prim.Native.Nat.{◌+◌, ◌-◌, ◌≤◌}
use Rattle.sheet.specs.Sheet.{farm_count}
use Rattle.sheet.specs.Rows.{owner_of, owner_from}
use Rattle.sheet.proofs.rows.owner_of.Given as goal

abbrev pub invariant-loop-i : goal.invariant-loop-i
invariant-loop-i l = (l.i-end ≡ farm_count l.s) × (l.i + l.left ≤ l.initial.left) × (owner_of l.s l.initial.left ≡ owner_from l.s (l.i-end - l.i) l.i l.left)
