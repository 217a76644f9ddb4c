-- "Farm, 33 bytes: entity address u16, quota q (1 to 8), power mode (0 to 2), VIN 17, EID 6, GID 6."
-- Assumes nothing: these are definitions.
use Rattle.std.specs.Prelude.{ℕ, List, get_or}
use Rattle.octets.specs.Parts.{part}

abbrev pub farm_record_size : ℕ
farm_record_size = 33

-- what stands in a farm's record
abbrev pub entity_in : List ℕ → List ℕ
entity_in farm = part farm 0 2

abbrev pub quota_in : List ℕ → ℕ
quota_in farm = get_or farm 2 0

abbrev pub mode_in : List ℕ → ℕ
mode_in farm = get_or farm 3 0

abbrev pub vin_in : List ℕ → List ℕ
vin_in farm = part farm 4 17

abbrev pub eid_in : List ℕ → List ℕ
eid_in farm = part farm 21 6

abbrev pub gid_in : List ℕ → List ℕ
gid_in farm = part farm 27 6
