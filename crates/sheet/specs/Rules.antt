-- The rules of document 01's "Farm sheet", a field for each. A sheet that breaks one is turned away: "1 | the farm sheet breaks a rule above".
-- Assumes nothing: these are definitions.
use Rattle.std.specs.Prelude.{◌≡◌, List, ℕ, ◌≤◌, ◌<◌, length}
use Rattle.sheet.specs.Sheet.{head_size, most_farms, most_testers, most_targets, most_quota, most_mode, most_rows, tester_flag, target_flag}
use Rattle.sheet.specs.Sheet.{farm_count, tester_count, target_count, farms_offset, testers_offset, targets_offset, testers_at, targets_at, end_at}
use Rattle.sheet.specs.Sheet.{entity_of, quota_of, mode_of, address_at, farm_of_at, flag_at}
use Rattle.sheet.specs.Rows.{first_row}

-- "Header, 12 bytes: three u16 counts (farms 1 to 4, testers 0 to 32, targets 0 to 64), then three u16 offsets. The three sections follow
-- in that order without gaps, and the sheet ends where the last one ends." (the offset of an empty section too: DECISIONS, A1)
pub record GoodHead (s : List ℕ) : Type 0 where
  pub farms_at_least : 1 ≤ farm_count s
  pub farms_at_most : farm_count s ≤ most_farms
  pub testers_at_most : tester_count s ≤ most_testers
  pub targets_at_most : target_count s ≤ most_targets
  pub farms_follow_header : farms_offset s ≡ head_size
  pub testers_follow_farms : testers_offset s ≡ testers_at s
  pub targets_follow_testers : targets_offset s ≡ targets_at s
  pub ends_with_targets : length s ≡ end_at s

-- "Farm, 33 bytes: entity address u16, quota q (1 to 8), power mode (0 to 2)", "no address is 0" (the entity's too: DECISIONS, A2)
pub record GoodFarm (s : List ℕ) (f : ℕ) : Type 0 where
  pub entity_not_zero : 0 < entity_of s f
  pub quota_at_least : 1 ≤ quota_of s f
  pub quota_at_most : quota_of s f ≤ most_quota
  pub mode_at_most : mode_of s f ≤ most_mode

-- the first n farms; "the sum of q+1 over the farms is at most 16"
pub record GoodFarms (s : List ℕ) (n : ℕ) : Type 0 where
  pub each_farm : (f : ℕ) → f < n → GoodFarm s f
  pub rows_at_most : first_row s n ≤ most_rows

-- "Tester, 4 bytes: address u16, farm u8, zero. Target, 4 bytes: address u16, farm u8, reachable 0 or 1.", "no address is 0; farm numbers
-- exist". The i-th of the section at a place; its fourth byte is at most `most`
pub record GoodKnown (s : List ℕ) (at i farms most : ℕ) : Type 0 where
  pub address_not_zero : 0 < address_at s at i
  pub farm_exists : farm_of_at s at i < farms
  pub flag_at_most : flag_at s at i ≤ most

-- "Testers ascend strictly by address, targets likewise" (over the whole section: DECISIONS, A4)
pub record GoodSection (s : List ℕ) (at n farms most : ℕ) : Type 0 where
  pub each_known : (i : ℕ) → i < n → GoodKnown s at i farms most
  pub addresses_ascend : (i j : ℕ) → i < j → j < n → address_at s at i < address_at s at j

pub record GoodSheet (s : List ℕ) : Type 0 where
  pub head : GoodHead s
  pub farms : GoodFarms s (farm_count s)
  pub testers : GoodSection s (testers_at s) (tester_count s) (farm_count s) tester_flag
  pub targets : GoodSection s (targets_at s) (target_count s) (farm_count s) target_flag
