-- The rules can be kept: the sheet of document 01's first worked days (entity 1000, tester 0E00, target 1010; q = 3, so that there is a row 3) is good, its
-- tester and target are found, and row 3 is the farm's last seat. So what the functions of this crate require is met by some sheet.
-- Assumes nothing.
use Rattle.std.proofs.Common.{Some, None}
use mathlib.Core.Path.{◌≡◌, refl}
use mathlib.Core.List.{List, [], ◌∷◌}
use Prim.Native.Nat.{ℕ, zero, suc, ◌<◌}
use native.Mathlib.Omega.{arith}
use Rattle.sheet.specs.Sheet.{testers_at, targets_at, testers_of, targets_of, farm_no, tester_flag, target_flag}
use Rattle.sheet.specs.Rules.{GoodFarm, GoodKnown, GoodSheet}
use Rattle.sheet.specs.Find.{lookup}
use Rattle.sheet.specs.Rows.{owner_from, owner_of}
use Rattle.octets.specs.Parts.{parts}

-- one farm, one tester, one target; VIN, EID and GID are zeros
abbrev pub rig : List ℕ
rig =
    0 ∷ 1 ∷ 0 ∷ 1 ∷ 0 ∷ 1 ∷ 0 ∷ 12 ∷ 0 ∷ 45 ∷ 0 ∷ 49
    ∷ 16 ∷ 0 ∷ 3 ∷ 0 ∷ 0 ∷ 0 ∷ 0 ∷ 0 ∷ 0 ∷ 0 ∷ 0 ∷ 0 ∷ 0 ∷ 0 ∷ 0 ∷ 0 ∷ 0 ∷ 0 ∷ 0 ∷ 0 ∷ 0
    ∷ 0 ∷ 0 ∷ 0 ∷ 0 ∷ 0 ∷ 0 ∷ 0 ∷ 0 ∷ 0 ∷ 0 ∷ 0 ∷ 0
    ∷ 14 ∷ 0 ∷ 0 ∷ 0
    ∷ 16 ∷ 16 ∷ 0 ∷ 1 ∷ []

only-farm : (f : ℕ) → f < 1 → GoodFarm rig f
only-farm zero h = record { entity_not_zero = omega arith; quota_at_least = omega arith; quota_at_most = omega arith; mode_at_most = omega arith }
only-farm (suc f) h = absurd (omega arith)

only-tester : (i : ℕ) → i < 1 → GoodKnown rig (testers_at rig) i 1 tester_flag
only-tester zero h = record { address_not_zero = omega arith; farm_exists = omega arith; flag_at_most = omega arith }
only-tester (suc i) h = absurd (omega arith)

only-target : (i : ℕ) → i < 1 → GoodKnown rig (targets_at rig) i 1 target_flag
only-target zero h = record { address_not_zero = omega arith; farm_exists = omega arith; flag_at_most = omega arith }
only-target (suc i) h = absurd (omega arith)

pub rig_good : GoodSheet rig
rig_good =
    record {
      head =
          record {
            farms_at_least = omega arith;
            farms_at_most = omega arith;
            testers_at_most = omega arith;
            targets_at_most = omega arith;
            farms_follow_header = refl;
            testers_follow_farms = refl;
            targets_follow_testers = refl;
            ends_with_targets = refl;
          };
      farms = record { each_farm = only-farm; rows_at_most = omega arith };
      testers = record { each_known = only-tester; addresses_ascend = λ i j h k. absurd (omega arith) };
      targets = record { each_known = only-target; addresses_ascend = λ i j h k. absurd (omega arith) };
    }

-- 0E00 is the tester, 1010 the reachable target; 0E01 is nobody
pub rig_tester : lookup 3584 (testers_of rig) ≡ Some (record { address = 3584; farm = farm_no 0; flag = 0 })
unfolding lookup parts
rig_tester = refl

pub rig_target : lookup 4112 (targets_of rig) ≡ Some (record { address = 4112; farm = farm_no 0; flag = 1 })
unfolding lookup parts
rig_target = refl

pub rig_nobody : lookup 3585 (testers_of rig) ≡ None
unfolding lookup parts
rig_nobody = refl

pub rig_row : owner_of rig 3 ≡ Some (farm_no 0, 3)
unfolding owner_from
rig_row = refl
