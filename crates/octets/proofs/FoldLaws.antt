-- Laws of `up_to`: a turn of the loop, and its end.
-- Assumes nothing.
use mathlib.Core.Path.{◌≡◌, refl, sym, ap, subst, ◌∙◌}
use mathlib.Core.Bool.{Bool, true, false}
use mathlib.Core.Logic.{⊎_elim}
use Prim.Native.Nat.{ℕ, zero, suc, ◌+◌, ◌≤◌, ◌<◌}
use native.Mathlib.Nat.{le_antisymm, eq-or-lt_of_le}
use native.Mathlib.Omega.{arith}
use native.Mathlib.Numerals.{add-one}
use Rattle.octets.specs.Choice.{both}
use Rattle.octets.specs.Fold.{up_to}
use Rattle.octets.specs.Says.{Says}
use Rattle.octets.proofs.SaysLaws.{never, says-yes, says_of}
use Rattle.octets.proofs.ChoiceLaws.{says_both, says-true}

pub up_to-none : {A : Type 0} (f : ℕ → A → A) (z : A) → z ≡ up_to f z 0
unfolding up_to
up_to-none f z = refl

pub up_to-more : {A : Type 0} (f : ℕ → A → A) (z a : A) (i : ℕ) → a ≡ up_to f z i → f i a ≡ up_to f z (i + 1)
unfolding up_to
up_to-more f z a i e = ap (f i) e ∙ ap (up_to f z) (sym (add-one i))

pub up_to-done : {A : Type 0} (f : ℕ → A → A) (z a : A) (i n : ℕ) → a ≡ up_to f z i → i ≤ n → n ≤ i → a ≡ up_to f z n
up_to-done f z a i n e h k = e ∙ ap (up_to f z) (le_antisymm h k)

-- a loop that asks the same of each number says that it holds of all of them
module _ (p : ℕ → Bool) (P : ℕ → Type 0) (each : (i : ℕ) → Says (p i) (P i)) where
  below_more : (n : ℕ) → ((i : ℕ) → i < n → P i) × P n → (i : ℕ) → i < suc n → P i
  below_more n h i l =
      ⊎_elim (λ (e : i ≡ n). subst P (sym e) h.1) (λ (k : i < n). h.0 i k) (eq-or-lt_of_le (let le : i ≤ n = omega arith in le))

  pub every_says : (n : ℕ) → Says (up_to (λ i ok. both ok (p i)) true n) ((i : ℕ) → i < n → P i)
  unfolding up_to
  every_says zero = says-yes (λ i l. absurd (omega arith))
  every_says (suc n) =
      says_of (below_more n) (λ (h : (i : ℕ) → i < suc n → P i). (λ i l. h i (omega arith), h n (omega arith))) (says_both (every_says n) (each n))

-- a loop that ends at the first that fails
module _ (p : ℕ → Bool) where
  pub every_none : up_to (λ i ok. both ok (p i)) true 0 ≡ true
  unfolding up_to
  every_none = refl

  pub every_more : (i : ℕ) → up_to (λ i ok. both ok (p i)) true i ≡ true → p i ≡ true → up_to (λ i ok. both ok (p i)) true (i + 1) ≡ true
  every_more i h e = sym (up_to-more (λ i ok. both ok (p i)) true true i (sym h)) ∙ e

  pub every_fails : (n i : ℕ) → i < n → p i ≡ false → up_to (λ i ok. both ok (p i)) true n ≡ false
  every_fails n i h e = by (up_to (λ i ok. both ok (p i)) true n) (every_says p (λ k. p k ≡ true) (λ k. says-true (p k)) n)
    where
      by : (t : Bool) → Says t ((k : ℕ) → k < n → p k ≡ true) → t ≡ false
      by true s = absurd (never (sym e ∙ s.right refl i h))
      by false s = refl

-- the same asked of each
pub every_same : (p q : ℕ → Bool) → ((i : ℕ) → p i ≡ q i) → (n : ℕ)
    → up_to (λ i ok. both ok (p i)) true n ≡ up_to (λ i ok. both ok (q i)) true n
unfolding up_to
every_same p q h zero = refl
every_same p q h (suc n) = rw (every_same p q h n, h n)
