-- What a connect has done to a block.
-- Assumes nothing: these are definitions.
use Rattle.std.specs.Prelude.{ℕ, ◌≡◌, List, take, Option, Some, None}
use Rattle.octets.specs.Search.{first_at}
use Rattle.model.specs.Row.{is_free, fresh_row}
use Rattle.model.specs.Farm.{Farm, with_row}
use Rattle.table.specs.Block.{farm_of, Holds}

-- the row that was found is fresh
abbrev pub connected_farm : Farm → Option ℕ → Farm
connected_farm f None = f
connected_farm f (Some seat) = with_row f seat fresh_row

-- "Connect opens the lowest free row of the farm": the farm's own rows are so many
pub record Connected (rows : ℕ) (before after : List ℕ) (r : Option ℕ) : Type 0 where
  pub is : r ≡ first_at is_free 0 (take rows (farm_of before).rows)
  pub held : Holds after (connected_farm (farm_of before) r)
