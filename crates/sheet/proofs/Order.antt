-- Two numbers, one beside the other.
-- Assumes nothing.
use mathlib.Core.Path.{◌≡◌, refl}
use mathlib.Core.Bool.{Bool, true, false}
use mathlib.Core.Logic.{◌⊎◌, inl, inr}
use Prim.Native.Nat.{ℕ, ◌≤◌, ◌<◌}
use borrow.Author.Tests.{leb-true, leb-false}
use lib.Dec.{leb}

by_test : (t : Bool) (a b : ℕ) → leb a b ≡ t → (a ≤ b) ⊎ (b < a)
by_test true a b e = inl (leb-true a b e)
by_test false a b e = inr (leb-false a b e)

pub le_or_lt : (a b : ℕ) → (a ≤ b) ⊎ (b < a)
le_or_lt a b = by_test (leb a b) a b refl
