-- "or is active twice": every active row compared with the rows after it is every address counted.
-- Assumes nothing.
use Prim.Native.Nat.{ℕ, zero, suc, ◌+◌, ◌≤◌, ◌<◌}
use mathlib.Core.Path.{◌≡◌, refl, sym, ap}
use mathlib.Core.Bool.{Bool, true, false}
use mathlib.Core.List.{List, [], ◌∷◌}
use native.Mathlib.Omega.{arith}
use lib.ListN.{length, drop}
use Rattle.octets.specs.Choice.{either, one}
use Rattle.octets.specs.Search.{count_if, some}
use Rattle.octets.proofs.SaysLaws.{never}
use Rattle.kinds.specs.declared.Row.{Row}
use Rattle.model.specs.Row.{row_at}
use Rattle.model.proofs.Cases.{split}

module _ (p : Row → Bool) where
  none_counted : (l : List Row) → some p l ≡ false → count_if p l ≡ 0
  unfolding some count_if
  none_counted [] e = refl
  none_counted (x ∷ l) e = by (p x) (none_counted l) e
    where
      by : (t : Bool) → (some p l ≡ false → count_if p l ≡ 0) → either t (some p l) ≡ false → one t + count_if p l ≡ 0
      by true more h = absurd (never (sym h))
      by false more h = omega (arith, more h)

  counted_none : (l : List Row) → count_if p l ≡ 0 → some p l ≡ false
  unfolding some count_if
  counted_none [] e = refl
  counted_none (x ∷ l) e = by (p x) (counted_none l) e
    where
      by : (t : Bool) → (count_if p l ≡ 0 → some p l ≡ false) → one t + count_if p l ≡ 0 → either t (some p l) ≡ false
      by true more h = absurd (omega arith)
      by false more h = more (omega arith)

  -- none after each that passes: one at most passes
  pub after-once : (l : List Row) → ((i : ℕ) → i < length l → p (row_at l i) ≡ true → some p (drop (suc i) l) ≡ false) → count_if p l ≤ 1
  unfolding count_if
  after-once [] h = omega arith
  after-once (x ∷ l) h =
      split (p x)
      (λ e. let z : one (p x) ≡ 1 = ap one e in omega (arith, none_counted l (h 0 (omega arith) e)))
      (λ e. let z : one (p x) ≡ 0 = ap one e in omega (arith, after-once l (λ i k. h (suc i) (omega arith))))

  -- and back
  pub once_after : (l : List Row) (i : ℕ) → i < length l → count_if p l ≤ 1 → p (row_at l i) ≡ true → some p (drop (suc i) l) ≡ false
  unfolding count_if
  once_after [] i k h e = absurd (omega arith)
  once_after (x ∷ l) zero k h e = let z : one (p x) ≡ 1 = ap one e in counted_none l (omega arith)
  once_after (x ∷ l) (suc i) k h e = once_after l i (omega arith) (omega arith) e
