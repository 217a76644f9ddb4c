-- The general argument of a bound by ticks, over any machine: a claim `Due x n`, "it ends within n ticks", that no call can raise,
-- that a tick lowers, and that never stands at 0.
-- Assumes nothing.
use Prim.Native.Nat.{ℕ, zero, suc, ◌+◌, ◌≤◌}
use mathlib.Core.List.{List, [], ◌∷◌}
use native.Mathlib.Omega.{arith}

-- `ticks x c`: how many ticks the call c is at x, 0 or 1; whether it is accepted may depend on x
module _ {S C : Type 0} (next : S → C → S) (ticks : S → C → ℕ) (End : S → C → Type 0) where
  -- some call of the list ends it
  pub data Within : S → List C → Type 0 where
    now : {x : S} {c : C} {cs : List C} → End x c → Within x (c ∷ cs)
    later : {x : S} {c : C} {cs : List C} → Within (next x c) cs → Within x (c ∷ cs)

  abbrev pub count : S → List C → ℕ
  count x [] = 0
  count x (c ∷ cs) = ticks x c + count (next x c) cs

  -- what a call does to a claim: it ends it, or leaves it due in what remains
  pub data Kept (Due : S → ℕ → Type 0) (x : S) (c : C) (n : ℕ) : Type 0 where
    stops : End x c → Kept Due x c n
    goes_on : (m : ℕ) → m + ticks x c ≤ n → Due (next x c) m → Kept Due x c n

  module _ (Due : S → ℕ → Type 0) (never : (x : S) → Due x 0 → ⊥) (keeps : (x : S) (c : C) (n : ℕ) → Due x n → Kept Due x c n) where
    pub bound : (cs : List C) (x : S) (n : ℕ) → Due x n → n ≤ count x cs → Within x cs
    bound [] x zero d h = absurd (never x d)
    bound [] x (suc n) d h = absurd (omega arith)
    bound (c ∷ cs) x n d h = go (keeps x c n d) (λ m e. bound cs (next x c) m e)
      where
        go : Kept Due x c n → ((m : ℕ) → Due (next x c) m → m ≤ count (next x c) cs → Within (next x c) cs) → Within x (c ∷ cs)
        go (stops e) ih = now e
        go (goes_on m l e) ih = later (ih m e (omega arith))
