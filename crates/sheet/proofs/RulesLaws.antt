-- What the walk of a section shows step by step, and the rule of the section that it makes. The walk sees only neighbours: that each address is above the
-- one before it, the first above 0, says both that none is 0 and that they ascend.
-- Assumes nothing.
use mathlib.Core.Path.{◌≡◌, sym, subst}
use mathlib.Core.List.{List}
use mathlib.Core.Logic.{⊎_elim}
use Prim.Native.Nat.{ℕ, zero, suc, ◌≤◌, ◌<◌}
use native.Mathlib.Nat.{lt_trans, eq-or-lt_of_le, not-suc-le-zero}
use native.Mathlib.Omega.{arith}
use Rattle.sheet.specs.Sheet.{address_at, farm_of_at, flag_at}
use Rattle.sheet.specs.Rules.{GoodSection}
use Rattle.sheet.specs.Test.{address_before}

pub record Passed (s : List ℕ) (at farms most i : ℕ) : Type 0 where
  pub above : address_before s at i < address_at s at i
  pub farm : farm_of_at s at i < farms
  pub flag : flag_at s at i ≤ most

module _ (s : List ℕ) (at farms most : ℕ) where
  abbrev pub PassedTo : ℕ → Type 0
  PassedTo n = (i : ℕ) → i < n → Passed s at farms most i

  ascend : (n : ℕ) → PassedTo n → (i j : ℕ) → i < j → j < n → address_at s at i < address_at s at j
  ascend n p i zero h k = absurd (not-suc-le-zero h)
  ascend n p i (suc j) h k =
      ⊎_elim
      (λ (e : i ≡ j). subst (λ (m : ℕ). address_at s at m < address_at s at (suc j)) (sym e) (p (suc j) k).above)
      (λ (l : i < j). lt_trans (ascend n p i j l (omega arith)) (p (suc j) k).above)
      (eq-or-lt_of_le (let le : i ≤ j = omega arith in le))

  pub section_good : (n : ℕ) → PassedTo n → GoodSection s at n farms most
  section_good n p =
      record {
        each_known = λ i h. record { address_not_zero = omega (arith, (p i h).above); farm_exists = (p i h).farm; flag_at_most = (p i h).flag };
        addresses_ascend = ascend n p;
      }

  pub section_passed : (n : ℕ) → GoodSection s at n farms most → PassedTo n
  section_passed n g zero h =
      record {
        above = (g.each_known 0 h).address_not_zero;
        farm = (g.each_known 0 h).farm_exists;
        flag = (g.each_known 0 h).flag_at_most;
      }
  section_passed n g (suc i) h =
      record {
        above = g.addresses_ascend i (suc i) (omega arith) h;
        farm = (g.each_known (suc i) h).farm_exists;
        flag = (g.each_known (suc i) h).flag_at_most;
      }
