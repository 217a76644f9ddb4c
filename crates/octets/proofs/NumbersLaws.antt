-- The two bytes that std has of a number are the documents': the high one, then the low one.
-- Assumes nothing.
use mathlib.Core.Path.{◌≡◌, ap, ◌∙◌}
use mathlib.Core.List.{List}
use Prim.Native.Nat.{ℕ, ◌/◌, ◌%◌, ◌<◌, ◌^◌}
use native.Mathlib.Omega.{arith}
use lib.ListN.{get_or}
use Rattle.std.specs.Int.{w16, to_be_bytes}

module _ (b : List ℕ) (x : ℕ) (is : b ≡ to_be_bytes w16 x) where
  pub high16 : x < 2 ^ 16 → get_or b 0 0 ≡ x / 256
  high16 h = ap (λ (l : List ℕ). get_or l 0 0) is ∙ omega arith

  pub low16 : get_or b 1 0 ≡ x % 256
  low16 = ap (λ (l : List ℕ). get_or l 1 0) is
