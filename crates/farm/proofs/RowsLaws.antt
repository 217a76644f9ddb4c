-- The rows that a farm owns: the first so many of its block's nine.
-- Assumes nothing.
use Rattle.std.proofs.Common.{Option, Some}
use Prim.Native.Nat.{ℕ, ◌≤◌, ◌<◌}
use mathlib.Core.Path.{◌≡◌, sym, ◌∙◌}
use mathlib.Core.List.{List}
use native.Mathlib.Omega.{arith}
use lib.ListN.{length, take}
use lib.Seq.{length-take-le}
use Rattle.octets.specs.Search.{first_at}
use Rattle.model.specs.Row.{is_free}
use Rattle.table.specs.Layout.{seats}
use Rattle.table.specs.Block.{farm_of}
use Rattle.decide.proofs.RowLaws.{nine, found_below}
use Rattle.farm.specs.Connected.{Connected}

pub own_many : (b : List ℕ) (rows : ℕ) → rows ≤ seats → length (take rows (farm_of b).rows) ≡ rows
own_many b rows h = length-take-le rows (farm_of b).rows (omega (arith, nine b))

-- the row that connect opens is the farm's own
pub free_below : (b : List ℕ) (rows : ℕ) → rows ≤ seats → (seat : ℕ) → first_at is_free 0 (take rows (farm_of b).rows) ≡ Some seat → seat < rows
free_below b rows h seat e = omega (arith, found_below is_free 0 (take rows (farm_of b).rows) seat e, own_many b rows h)

pub connected-below : (rows : ℕ) (before after : List ℕ) (r : Option ℕ) → rows ≤ seats → Connected rows before after r
    → (seat : ℕ) → r ≡ Some seat → seat < rows
connected-below rows before after r h c seat e = free_below before rows h seat (sym c.is ∙ e)
