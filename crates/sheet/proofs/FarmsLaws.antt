-- Laws of a farm's record: it is whole, and what stands in it stands in the sheet. A reply is made from the record, the rules are about the sheet.
-- Assumes nothing.
use mathlib.Core.Path.{◌≡◌}
use mathlib.Core.List.{List}
use Prim.Native.Nat.{ℕ, ◌<◌}
use native.Mathlib.Omega.{arith}
use lib.ListN.{length, get_or}
use Rattle.octets.proofs.PartsLaws.{length_part, get_or-part}
use Rattle.sheet.specs.Sheet.{farm_size, farm_count, farm_at, farm_record, quota_of, mode_of}
use Rattle.sheet.specs.Rules.{GoodSheet}
use Rattle.sheet.proofs.LengthLaws.{good_lengths}

pub record_length : (s : List ℕ) (f : ℕ) → GoodSheet s → f < farm_count s → length (farm_record s f) ≡ farm_size
record_length s f g h = length_part s (farm_at f) farm_size (omega (arith, (good_lengths s g).farm f h))

pub record_quota : (s : List ℕ) (f : ℕ) → get_or (farm_record s f) 2 0 ≡ quota_of s f
record_quota s f = get_or-part s (farm_at f) farm_size 2 (omega arith)

pub record_mode : (s : List ℕ) (f : ℕ) → get_or (farm_record s f) 3 0 ≡ mode_of s f
record_mode s f = get_or-part s (farm_at f) farm_size 3 (omega arith)
