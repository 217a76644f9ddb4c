-- Rule 4 over the lent table: the test of all blocks.
-- Assumes nothing: these are definitions.
use Rattle.std.specs.Prelude.{ℕ, ◌*◌, Bool, true, List}
use Rattle.octets.specs.Choice.{both}
use Rattle.octets.specs.Fold.{up_to}
use Rattle.octets.specs.Parts.{part}
use Rattle.sheet.specs.Sheet.{most_farms}
use Rattle.model.specs.FarmSheet.{slot_sheet}
use Rattle.model.specs.RuleTest.{good_farm}
use Rattle.table.specs.Layout.{block_size}
use Rattle.table.specs.Block.{farm_of, whole_block}

-- the block of the slot f keeps rule 4: its bytes are those of a farm, and the farm keeps the rules
unfoldable pub slot_keeps : List ℕ → List ℕ → ℕ → Bool
slot_keeps s t f =
    both (whole_block (part t (f * block_size) block_size)) (good_farm (slot_sheet s f) (farm_of (part t (f * block_size) block_size)))

-- each slot does, those beyond the sheet's farms too
unfoldable pub table_keeps : List ℕ → List ℕ → Bool
table_keeps s t = up_to (λ f ok. both ok (slot_keeps s t f)) true most_farms
