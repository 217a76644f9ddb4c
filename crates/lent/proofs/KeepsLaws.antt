-- Rule 4 over the lent table: each block is whole and keeps the rules, slot by slot, is what the model asks of the table.
-- Assumes nothing.
use Prim.Native.Nat.{ℕ, zero, suc, ◌+◌, ◌≤◌, ◌<◌}
use mathlib.Core.Path.{◌≡◌, subst}
use mathlib.Core.Bool.{Bool, true}
use mathlib.Core.List.{List}
use mathlib.Core.Logic.{⊎_elim}
use native.Mathlib.Nat.{eq-or-lt_of_le}
use native.Mathlib.Omega.{arith}
use Rattle.octets.specs.Choice.{both}
use Rattle.octets.specs.Says.{Says}
use Rattle.octets.proofs.SaysLaws.{says-yes, says_of, says_same}
use Rattle.octets.proofs.ChoiceLaws.{says_both, says-true}
use Rattle.sheet.specs.Sheet.{most_farms}
use Rattle.sheet.specs.Test.{every_below}
use Rattle.sheet.proofs.TestLaws.{below-says}
use Rattle.model.specs.FarmSheet.{slot_sheet}
use Rattle.model.specs.Move.{Held}
use Rattle.model.specs.RuleTest.{good_farm}
use Rattle.model.specs.Table.{good_from, good_table}
use Rattle.table.specs.Block.{farm_of, whole_block}
use Rattle.lent.specs.Lent.{block, whole_table, held_at, slots_from, lent_table}

module _ (s : List ℕ) (held : ℕ → Held) where
  abbrev Each : ℕ → ℕ → Type 0
  Each k n = (f : ℕ) → k ≤ f → f < k + n → good_farm (slot_sheet s f) (held f).farm ≡ true

  each-says : (k n : ℕ) → Says (good_from s k (slots_from held k n)) (Each k n)
  each-says k zero = says-yes (λ f a b. absurd (omega (arith, a, b)))
  each-says k (suc n) =
      says_of
      (λ (x : (good_farm (slot_sheet s k) (held k).farm ≡ true) × Each (suc k) n) (f : ℕ) (a : k ≤ f) (b : f < k + suc n).
      ⊎_elim (λ (e : k ≡ f). subst (λ (g : ℕ). good_farm (slot_sheet s g) (held g).farm ≡ true) e x.0)
      (λ (l : k < f). x.1 f (omega arith) (omega arith)) (eq-or-lt_of_le a))
      (λ (x : Each k (suc n)). (x k (omega arith) (omega arith), λ f a b. x f (omega arith) (omega arith)))
      (says_both (says-true (good_farm (slot_sheet s k) (held k).farm)) (each-says (suc k) n))

module _ (s t m : List ℕ) where
  -- all that rule 4 asks of one slot
  abbrev pub slot_keeps : ℕ → Bool
  slot_keeps f = both (whole_block (block t f)) (good_farm (slot_sheet s f) (farm_of (block t f)))

  abbrev Wholes : Type 0
  Wholes = (f : ℕ) → f < most_farms → whole_block (block t f) ≡ true

  abbrev Goods : Type 0
  Goods = (f : ℕ) → f < most_farms → good_farm (slot_sheet s f) (farm_of (block t f)) ≡ true

  goods_say : Says (good_table s (lent_table s t m)) Goods
  unfolding good_table lent_table held_at
  goods_say =
      says_of (λ (x : Each s (held_at s t m) 0 most_farms) (f : ℕ) (h : f < most_farms). x f (omega arith) (omega (arith, h)))
      (λ (x : Goods) (f : ℕ) (a : 0 ≤ f) (b : f < 0 + most_farms). x f (omega (arith, b)))
      (each-says s (held_at s t m) 0 most_farms)

  pub keeps_is : every_below slot_keeps most_farms ≡ both (whole_table t) (good_table s (lent_table s t m))
  unfolding whole_table
  keeps_is =
      says_same {a = every_below slot_keeps most_farms} {b = both (whole_table t) (good_table s (lent_table s t m))}
      (says_of
      (λ (x : (f : ℕ) → f < most_farms → (whole_block (block t f) ≡ true) × (good_farm (slot_sheet s f) (farm_of (block t f)) ≡ true)).
      (λ (f : ℕ) (h : f < most_farms). (x f h).0, λ (f : ℕ) (h : f < most_farms). (x f h).1))
      (λ (x : Wholes × Goods) (f : ℕ) (h : f < most_farms). (x.0 f h, x.1 f h))
      (below-says slot_keeps (λ f. (whole_block (block t f) ≡ true) × (good_farm (slot_sheet s f) (farm_of (block t f)) ≡ true))
      (λ f. says_both (says-true (whole_block (block t f))) (says-true (good_farm (slot_sheet s f) (farm_of (block t f))))) most_farms))
      (says_both (below-says (λ f. whole_block (block t f)) (λ f. whole_block (block t f) ≡ true) (λ f. says-true (whole_block (block t f))) most_farms) goods_say)

  -- what a call that goes on knows of a slot
  pub slot_keeps_lem : good_table s (lent_table s t m) ≡ true → (f : ℕ) → f < most_farms → good_farm (slot_sheet s f) (farm_of (block t f)) ≡ true
  slot_keeps_lem e f h = goods_say.right e f h
