-- Refusal 1's test says the same as the record `GoodSheet`.
-- Assumes nothing.
use mathlib.Core.Bool.{Bool}
use mathlib.Core.List.{List}
use Prim.Native.Nat.{ℕ, ◌<◌}
use lib.ListN.{length}
use Rattle.octets.specs.Says.{Says}
use Rattle.octets.proofs.SaysLaws.{says_of}
use Rattle.octets.proofs.ChoiceLaws.{says_both, says_le, says_lt, says_eq}
use Rattle.octets.proofs.FoldLaws.{every_says}
use Rattle.sheet.specs.Sheet.{head_size, most_farms, most_testers, most_targets, most_quota, most_mode, most_rows, tester_flag, target_flag}
use Rattle.sheet.specs.Sheet.{farm_count, tester_count, target_count, farms_offset, testers_offset, targets_offset, testers_at, targets_at, end_at}
use Rattle.sheet.specs.Sheet.{entity_of, quota_of, mode_of, address_at, farm_of_at, flag_at}
use Rattle.sheet.specs.Rules.{GoodHead, GoodFarm, GoodSection, GoodSheet}
use Rattle.sheet.specs.Rows.{first_row}
use Rattle.sheet.specs.Test.{every_below, head_good, farm_good, address_before, known_good, good_sheet}
use Rattle.sheet.proofs.RulesLaws.{Passed, section_good, section_passed}

-- what holds of each number below n
pub below-says : (p : ℕ → Bool) (P : ℕ → Type 0) → ((i : ℕ) → Says (p i) (P i)) → (n : ℕ) → Says (every_below p n) ((i : ℕ) → i < n → P i)
unfolding every_below
below-says p P each n = every_says p P each n

head-says : (s : List ℕ) → Says (head_good s) (GoodHead s)
head-says s =
    says_of
    (λ h.
    record {
      farms_at_least = h.0.0;
      farms_at_most = h.0.1;
      testers_at_most = h.1.0.0;
      targets_at_most = h.1.0.1;
      farms_follow_header = h.1.1.0.0;
      testers_follow_farms = h.1.1.0.1;
      targets_follow_testers = h.1.1.1.0;
      ends_with_targets = h.1.1.1.1;
    })
    (λ g. (
      (g.farms_at_least, g.farms_at_most),
      (
        (g.testers_at_most, g.targets_at_most),
        ((g.farms_follow_header, g.testers_follow_farms), (g.targets_follow_testers, g.ends_with_targets)),
      ),
    ))
    (says_both (says_both (says_le 1 (farm_count s)) (says_le (farm_count s) most_farms))
    (says_both (says_both (says_le (tester_count s) most_testers) (says_le (target_count s) most_targets))
    (says_both (says_both (says_eq (farms_offset s) head_size) (says_eq (testers_offset s) (testers_at s)))
    (says_both (says_eq (targets_offset s) (targets_at s)) (says_eq (length s) (end_at s))))))

farm-says : (s : List ℕ) (f : ℕ) → Says (farm_good s f) (GoodFarm s f)
farm-says s f =
    says_of
    (λ h. record { entity_not_zero = h.0; quota_at_least = h.1.0; quota_at_most = h.1.1.0; mode_at_most = h.1.1.1 })
    (λ g. (g.entity_not_zero, (g.quota_at_least, (g.quota_at_most, g.mode_at_most))))
    (says_both (says_lt 0 (entity_of s f))
    (says_both (says_le 1 (quota_of s f)) (says_both (says_le (quota_of s f) most_quota) (says_le (mode_of s f) most_mode))))

farms_say : (s : List ℕ) (n : ℕ) → Says (every_below (farm_good s) n) ((f : ℕ) → f < n → GoodFarm s f)
farms_say s n = below-says (farm_good s) (GoodFarm s) (farm-says s) n

-- the test sees neighbours only: above the one before, the first above 0
module _ (s : List ℕ) (at farms most : ℕ) where
  known_says : (i : ℕ) → Says (known_good s at farms most i) (Passed s at farms most i)
  known_says i =
      says_of
      (λ h. record { above = h.0; farm = h.1.0; flag = h.1.1 })
      (λ g. (g.above, (g.farm, g.flag)))
      (says_both (says_lt (address_before s at i) (address_at s at i)) (says_both (says_lt (farm_of_at s at i) farms) (says_le (flag_at s at i) most)))

  section_says : (n : ℕ) → Says (every_below (known_good s at farms most) n) (GoodSection s at n farms most)
  section_says n =
      says_of (section_good s at farms most n) (section_passed s at farms most n)
      (below-says (known_good s at farms most) (Passed s at farms most) known_says n)

-- THE TEST AND THE RULES: refusal 1 is given exactly where the farm sheet breaks a rule.
pub good-says : (s : List ℕ) → Says (good_sheet s) (GoodSheet s)
unfolding good_sheet
good-says s =
    says_of
    (λ h. record { head = h.0; farms = record { each_farm = h.1.0.0; rows_at_most = h.1.0.1 }; testers = h.1.1.0; targets = h.1.1.1 })
    (λ g. (g.head, ((g.farms.each_farm, g.farms.rows_at_most), (g.testers, g.targets))))
    (says_both (head-says s)
    (says_both (says_both (farms_say s (farm_count s)) (says_le (first_row s (farm_count s)) most_rows))
    (says_both (section_says s (testers_at s) (farm_count s) tester_flag (tester_count s))
    (section_says s (targets_at s) (farm_count s) target_flag (target_count s)))))
