-- What one farm has of the farm sheet: all that its rules ever look at.
-- Assumes nothing: these are definitions.
use Rattle.std.specs.Prelude.{ℕ, Bool, false, List, [], eqb, ltb, Option, Some, None}
use Rattle.sheet.specs.declared.find.Known.{Known}
use Rattle.octets.specs.Choice.{pick}
use Rattle.sheet.specs.Sheet.{farm_count, entity_of, quota_of, farm_record, testers_of, targets_of}
use Rattle.sheet.specs.Find.{lookup}
use Rattle.sheet.specs.Rows.{rows_owned, first_row}

-- what a target address is to a farm: "target not one of this farm's", "not reachable", or a controller that can be reached
pub data TargetIs : Type 0 where
  stranger : TargetIs
  unreachable : TargetIs
  reachable : TargetIs

-- `first` is the number of the farm's first row over the whole sheet, `rows` how many it owns
pub record FarmSheet : Type 0 where
  pub entity : ℕ
  pub quota : ℕ
  pub first : ℕ
  pub rows : ℕ
  pub tester : ℕ → Bool
  pub target : ℕ → TargetIs
  pub names : List ℕ

-- "not a tester of this farm"
abbrev pub tester_by : ℕ → Option Known → Bool
tester_by f (Some k) = eqb k.farm.0 f
tester_by f None = false

-- "Target, 4 bytes: address u16, farm u8, reachable 0 or 1."
abbrev pub target_by : ℕ → Option Known → TargetIs
target_by f (Some k) = pick (eqb k.farm.0 f) (pick (eqb k.flag 1) reachable unreachable) stranger
target_by f None = stranger

-- what farm f has of the sheet s
unfoldable pub farm_sheet : List ℕ → ℕ → FarmSheet
farm_sheet s f =
    record {
      entity = entity_of s f;
      quota = quota_of s f;
      first = first_row s f;
      rows = rows_owned s f;
      tester = λ a. tester_by f (lookup a (testers_of s));
      target = λ a. target_by f (lookup a (targets_of s));
      names = farm_record s f;
    }

-- a slot of the table beyond the sheet's farms owns no row
unfoldable pub no_farm : FarmSheet
no_farm = record { entity = 0; quota = 0; first = 0; rows = 0; tester = λ a. false; target = λ a. stranger; names = [] }

unfoldable pub slot_sheet : List ℕ → ℕ → FarmSheet
slot_sheet s f = pick (ltb f (farm_count s)) (farm_sheet s f) no_farm
