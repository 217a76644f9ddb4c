-- What the test of the table says: each block's bytes are those of a farm, and the farm keeps every rule of rule 4.
-- Assumes nothing.
use Prim.Native.Nat.{ℕ, ◌*◌, ◌<◌}
use mathlib.Core.Path.{◌≡◌}
use mathlib.Core.List.{List}
use mathlib.Core.Bool.{true}
use native.Mathlib.Omega.{arith}
use lib.ListN.{length}
use Rattle.octets.specs.Says.{Says}
use Rattle.octets.specs.Parts.{part}
use Rattle.octets.proofs.SaysLaws.{says_of}
use Rattle.octets.proofs.ChoiceLaws.{says_both, says-true}
use Rattle.octets.proofs.FoldLaws.{every_says}
use Rattle.octets.proofs.PartsLaws.{length_part}
use Rattle.sheet.specs.Sheet.{most_farms}
use Rattle.model.specs.FarmSheet.{slot_sheet}
use Rattle.model.specs.Rule.{Good}
use Rattle.model.proofs.RuleTestLaws.{farm-says}
use Rattle.table.specs.Layout.{block_size, table_size}
use Rattle.table.specs.Block.{farm_of, Whole}
use Rattle.table_whole.proofs.WholeTest.{whole_says}
use Rattle.rules.specs.Rules.{slot_keeps, table_keeps}

-- the block of the slot f
abbrev pub block_of : List ℕ → ℕ → List ℕ
block_of t f = part t (f * block_size) block_size

abbrev pub SlotKeeps : List ℕ → List ℕ → ℕ → Type 0
SlotKeeps s t f = Whole (block_of t f) × Good (slot_sheet s f) (farm_of (block_of t f))

module _ (s t : List ℕ) (long : length t ≡ table_size) where
  slot-says : (f : ℕ) → f < most_farms → Says (slot_keeps s t f) (SlotKeeps s t f)
  unfolding slot_keeps
  slot-says f h =
      says_both (whole_says (block_of t f) (length_part t (f * block_size) block_size (omega arith)))
      (farm-says (slot_sheet s f) (farm_of (block_of t f)))

  -- THE TEST AND THE RULES: refusal 4 is given exactly where a block of the table is no farm's or its farm breaks a rule.
  pub table-says : Says (table_keeps s t) ((f : ℕ) → f < most_farms → SlotKeeps s t f)
  unfolding table_keeps
  table-says =
      says_of (λ h f k. (slot-says f k).right (h f k)) (λ h f k. (slot-says f k).all (h f k))
      (every_says (slot_keeps s t) (λ f. slot_keeps s t f ≡ true) (λ f. says-true (slot_keeps s t f)) most_farms)
