-- A good sheet is as long as each function that reads it asks.
-- Assumes nothing.
use mathlib.Core.List.{List}
use Prim.Native.Nat.{ℕ, ◌+◌, ◌≤◌, ◌<◌}
use native.Mathlib.Omega.{arith}
use lib.ListN.{length}
use Rattle.sheet.specs.Sheet.{head_size, farm_count, farm_at, testers_at, end_at}
use Rattle.sheet.specs.Rules.{GoodSheet}

-- each length that a function of this crate asks for
pub record Lengths (s : List ℕ) : Type 0 where
  pub header : head_size ≤ length s
  pub farm : (f : ℕ) → f < farm_count s → farm_at (f + 1) ≤ length s
  pub all_farms : testers_at s ≤ length s
  pub whole : end_at s ≤ length s

pub good_lengths : (s : List ℕ) → GoodSheet s → Lengths s
good_lengths s g =
    let e = g.head.ends_with_targets in
    record {
      header = omega (arith, e);
      farm = λ f h. omega (arith, e);
      all_farms = omega (arith, e);
      whole = omega (arith, e);
    }
