-- What a call knows of the farm that it is for, once refusals 1 to 5 are past.
-- Assumes nothing: this is a definition.
use Rattle.std.specs.Prelude.{ℕ, ◌<◌, ◌≡◌, List, length}
use Rattle.sheet.specs.Sheet.{farm_count}
use Rattle.sheet.specs.Rules.{GoodSheet}
use Rattle.model.specs.FarmSheet.{farm_sheet}
use Rattle.model.specs.Rule.{Good}
use Rattle.table.specs.Block.{farm_of, Whole}
use Rattle.table.specs.Layout.{table_size}
use Rattle.lent.specs.Lent.{block}

-- the sheet is good and has the farm; the farm's block is whole and keeps rule 4
pub record Ready (s t : List ℕ) (f : ℕ) : Type 0 where
  pub sheet : GoodSheet s
  pub has : f < farm_count s
  pub long : length t ≡ table_size
  pub whole : Whole (block t f)
  pub good : Good (farm_sheet s f) (farm_of (block t f))

-- of every farm of the sheet
pub record AllReady (s t : List ℕ) : Type 0 where
  pub sheet : GoodSheet s
  pub long : length t ≡ table_size
  pub each : (f : ℕ) → f < farm_count s → Ready s t f
