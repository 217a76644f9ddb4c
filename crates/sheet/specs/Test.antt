-- Refusal 1 as a test: it says the same as the record `GoodSheet` (proofs/TestLaws).
-- Assumes nothing: these are definitions.
use Rattle.std.specs.Prelude.{ℕ, zero, suc, Bool, true, List, eqb, leb, ltb, length}
use Rattle.octets.specs.Choice.{both}
use Rattle.octets.specs.Fold.{up_to}
use Rattle.sheet.specs.Sheet.{head_size, most_farms, most_testers, most_targets, most_quota, most_mode, most_rows, tester_flag, target_flag}
use Rattle.sheet.specs.Sheet.{farm_count, tester_count, target_count, farms_offset, testers_offset, targets_offset, testers_at, targets_at, end_at}
use Rattle.sheet.specs.Sheet.{entity_of, quota_of, mode_of, address_at, farm_of_at, flag_at}
use Rattle.sheet.specs.Rows.{first_row}

-- the test holds of each number below n
unfoldable pub every_below : (ℕ → Bool) → ℕ → Bool
every_below p n = up_to (λ i ok. both ok (p i)) true n

abbrev pub head_good : List ℕ → Bool
head_good s =
    both (both (leb 1 (farm_count s)) (leb (farm_count s) most_farms))
    (both (both (leb (tester_count s) most_testers) (leb (target_count s) most_targets))
    (both (both (eqb (farms_offset s) head_size) (eqb (testers_offset s) (testers_at s)))
    (both (eqb (targets_offset s) (targets_at s)) (eqb (length s) (end_at s)))))

abbrev pub farm_good : List ℕ → ℕ → Bool
farm_good s f =
    both (ltb 0 (entity_of s f)) (both (leb 1 (quota_of s f)) (both (leb (quota_of s f) most_quota) (leb (mode_of s f) most_mode)))

-- the address before the i-th, 0 before the first
abbrev pub address_before : List ℕ → ℕ → ℕ → ℕ
address_before s at zero = 0
address_before s at (suc i) = address_at s at i

abbrev pub known_good : List ℕ → ℕ → ℕ → ℕ → ℕ → Bool
known_good s at farms most i =
    both (ltb (address_before s at i) (address_at s at i)) (both (ltb (farm_of_at s at i) farms) (leb (flag_at s at i) most))

unfoldable pub good_sheet : List ℕ → Bool
good_sheet s =
    both (head_good s)
    (both (both (every_below (farm_good s) (farm_count s)) (leb (first_row s (farm_count s)) most_rows))
    (both (every_below (known_good s (testers_at s) (farm_count s) tester_flag) (tester_count s))
    (every_below (known_good s (targets_at s) (farm_count s) target_flag) (target_count s))))
