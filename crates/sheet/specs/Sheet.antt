-- Where things stand in a farm sheet, as document 01 has it under "Farm sheet".
-- Assumes nothing: these are definitions.
use Rattle.std.specs.Prelude.{ℕ, ◌+◌, ◌*◌, List, map, get_or}
use Rattle.octets.specs.Numbers.{u16_at}
use Rattle.octets.specs.Parts.{part, parts}
use Rattle.kinds.specs.declared.FarmNo.{FarmNo}
use Rattle.sheet.specs.declared.find.Known.{Known}

-- ---- sizes: "Header, 12 bytes", "Farm, 33 bytes", "Tester, 4 bytes", "Target, 4 bytes"

abbrev pub head_size : ℕ
head_size = 12

abbrev pub farm_size : ℕ
farm_size = 33

abbrev pub known_size : ℕ
known_size = 4

-- ---- limits: "farms 1 to 4, testers 0 to 32, targets 0 to 64", "quota q (1 to 8), power mode (0 to 2)",
-- "the sum of q+1 over the farms is at most 16"

abbrev pub most_farms : ℕ
most_farms = 4

abbrev pub most_testers : ℕ
most_testers = 32

abbrev pub most_targets : ℕ
most_targets = 64

abbrev pub most_quota : ℕ
most_quota = 8

abbrev pub most_mode : ℕ
most_mode = 2

abbrev pub most_rows : ℕ
most_rows = 16

-- the fourth byte: "Tester .. zero", "Target .. reachable 0 or 1"
abbrev pub tester_flag : ℕ
tester_flag = 0

abbrev pub target_flag : ℕ
target_flag = 1

-- ---- "three u16 counts (farms .., testers .., targets ..), then three u16 offsets"

module _ (s : List ℕ) where
  abbrev pub farm_count : ℕ
  farm_count = u16_at s 0

  abbrev pub tester_count : ℕ
  tester_count = u16_at s 2

  abbrev pub target_count : ℕ
  target_count = u16_at s 4

  abbrev pub farms_offset : ℕ
  farms_offset = u16_at s 6

  abbrev pub testers_offset : ℕ
  testers_offset = u16_at s 8

  abbrev pub targets_offset : ℕ
  targets_offset = u16_at s 10

-- ---- "The three sections follow in that order without gaps, and the sheet ends where the last one ends."

-- where farm f stands; the testers stand where one farm more would
abbrev pub farm_at : ℕ → ℕ
farm_at f = head_size + f * farm_size

module _ (s : List ℕ) where
  abbrev pub testers_at : ℕ
  testers_at = farm_at (farm_count s)

  abbrev pub targets_at : ℕ
  targets_at = testers_at + tester_count s * known_size

  abbrev pub end_at : ℕ
  end_at = targets_at + target_count s * known_size

-- ---- "Farm, 33 bytes: entity address u16, quota q (1 to 8), power mode (0 to 2), VIN 17, EID 6, GID 6."

module _ (s : List ℕ) (f : ℕ) where
  abbrev pub farm_record : List ℕ
  farm_record = part s (farm_at f) farm_size

  abbrev pub entity_of : ℕ
  entity_of = u16_at s (farm_at f)

  abbrev pub quota_of : ℕ
  quota_of = get_or s (farm_at f + 2) 0

  abbrev pub mode_of : ℕ
  mode_of = get_or s (farm_at f + 3) 0

-- ---- "Tester, 4 bytes: address u16, farm u8, zero. Target, 4 bytes: address u16, farm u8, reachable 0 or 1."

-- a farm number as the kind that it is
abbrev pub farm_no : ℕ → FarmNo
farm_no f = record { 0 = f }

-- what four bytes say
abbrev pub known_from : List ℕ → Known
known_from b = record { address = u16_at b 0; farm = farm_no (get_or b 2 0); flag = get_or b 3 0 }

-- n of them from the place at on
abbrev pub knowns_at : List ℕ → ℕ → ℕ → List Known
knowns_at s at n = map known_from (parts known_size at n s)

abbrev pub testers_of : List ℕ → List Known
testers_of s = knowns_at s (testers_at s) (tester_count s)

abbrev pub targets_of : List ℕ → List Known
targets_of s = knowns_at s (targets_at s) (target_count s)

-- the three fields of the i-th of them, in the sheet's own bytes
module _ (s : List ℕ) (at i : ℕ) where
  abbrev pub address_at : ℕ
  address_at = u16_at s (at + i * known_size)

  abbrev pub farm_of_at : ℕ
  farm_of_at = get_or s (at + i * known_size + 2) 0

  abbrev pub flag_at : ℕ
  flag_at = get_or s (at + i * known_size + 3) 0
