-- The test of rule 4 over the whole table, and a list of rules of which the first that is broken is told.
-- Assumes nothing.
use Prim.{Unit}
use Prim.Native.Nat.{ℕ, zero, suc, ◌+◌, ◌<◌}
use mathlib.Core.Path.{◌≡◌, refl, sym, ap, subst}
use mathlib.Core.Bool.{Bool, true, false}
use mathlib.Core.List.{List, [], ◌∷◌}
use mathlib.Core.Logic.{◌↔◌}
use native.Mathlib.Nat.{zero-add}
use native.Mathlib.Omega.{arith}
use lib.ListN.{length}
use Rattle.octets.specs.Choice.{unless}
use Rattle.octets.specs.Says.{Says}
use Rattle.octets.proofs.SaysLaws.{never, says-yes, says_of}
use Rattle.octets.proofs.ChoiceLaws.{says_both}
use Rattle.model.specs.FarmSheet.{slot_sheet}
use Rattle.model.specs.Rule.{Good}
use Rattle.model.specs.Table.{Table, slot, good_from, good_table, Call, Lent, step, table_of}
use Rattle.model.specs.History.{Made, fresh, run}
use Rattle.model.proofs.RuleKept.{GoodAll, step_keeps, fresh-good, run-good}
use Rattle.model.proofs.RuleTestLaws.{farm-says}

-- ---- rule 4, of the whole table

-- each slot keeps the rules
abbrev pub TableKeeps : List ℕ → Table → Type 0
TableKeeps s t = (f : ℕ) → f < length t → Good (slot_sheet s f) (slot t f).farm

from-says : (s : List ℕ) (k : ℕ) (t : Table) → Says (good_from s k t) ((i : ℕ) → i < length t → Good (slot_sheet s (k + i)) (slot t i).farm)
from-says s k [] = says-yes (λ i h. absurd (omega arith))
from-says s k (h ∷ t) =
    says_of
    (λ x i l. all_of i l x.0 x.1)
    (λ x. (
      subst (λ (f : ℕ). Good (slot_sheet s f) h.farm) (let z : k + 0 ≡ k = omega arith in z) (x 0 (omega arith)),
      λ i l. subst (λ (f : ℕ). Good (slot_sheet s f) (slot t i).farm) (let z : k + suc i ≡ suc k + i = omega arith in z) (x (suc i) (omega arith)),
    ))
    (says_both (farm-says (slot_sheet s k) h.farm) (from-says s (suc k) t))
  where
    all_of : (i : ℕ) → i < suc (length t) → Good (slot_sheet s k) h.farm
        → ((j : ℕ) → j < length t → Good (slot_sheet s (suc k + j)) (slot t j).farm)
        → Good (slot_sheet s (k + i)) (slot (h ∷ t) i).farm
    all_of zero l x y = subst (λ (f : ℕ). Good (slot_sheet s f) h.farm) (let z : k ≡ k + 0 = omega arith in z) x
    all_of (suc i) l x y =
        subst (λ (f : ℕ). Good (slot_sheet s f) (slot t i).farm) (let z : suc k + i ≡ k + suc i = omega arith in z) (y i (omega arith))

-- THE TEST AND THE RULES: refusal 4 is given exactly where the table breaks a rule.
pub table-says : (s : List ℕ) (t : Table) → Says (good_table s t) (TableKeeps s t)
unfolding good_table
table-says s t =
    says_of (λ x i l. subst (λ (f : ℕ). Good (slot_sheet s f) (slot t i).farm) (zero-add i) (x i l))
    (λ x i l. subst (λ (f : ℕ). Good (slot_sheet s f) (slot t i).farm) (sym (zero-add i)) (x i l))
    (from-says s 0 t)

-- ---- rule 4 through a history

-- the test and the rules slot by slot
all-says : (s : List ℕ) (k : ℕ) (t : Table) → Says (good_from s k t) (GoodAll s k t)
all-says s k [] = says-yes tt
all-says s k (h ∷ t) = says_both (farm-says (slot_sheet s k) h.farm) (all-says s (suc k) t)

-- A CALL ON A TABLE THAT KEEPS RULE 4 leaves one that keeps it,
pub step_test : (s : List ℕ) (l : Lent) (t : Table) (c : Call) → good_table s t ≡ true → good_table s (table_of t (step s l t c)) ≡ true
unfolding good_table
step_test s l t c k = (all-says s 0 (table_of t (step s l t c))).all (step_keeps s l t c ((all-says s 0 t).right k))

-- a fresh table keeps it, and so REFUSAL 4 NEVER MEETS A HISTORY from a fresh table.
pub fresh_test : (s : List ℕ) (rooms : List (List (List ℕ))) → good_table s (fresh rooms) ≡ true
unfolding good_table
fresh_test s rooms = (all-says s 0 (fresh rooms)).all (fresh-good s 0 rooms)

pub history_test : (s : List ℕ) (rooms : List (List (List ℕ))) (ms : List Made) → good_table s (run s (fresh rooms) ms) ≡ true
unfolding good_table
history_test s rooms ms = (all-says s 0 (run s (fresh rooms) ms)).all (run-good s (fresh rooms) ms (fresh-good s 0 rooms))

-- ---- "Checked in this order; the first that applies is given."

-- of a list of rules: the n-th is broken and those before it are kept; with 0, all are kept
abbrev pub FirstBroken : List (Type 0) → ℕ → Type 0
FirstBroken [] zero = Unit {0}
FirstBroken [] (suc n) = ⊥
FirstBroken (K ∷ Ks) zero = K × FirstBroken Ks zero
FirstBroken (K ∷ Ks) (suc zero) = K → ⊥
FirstBroken (K ∷ Ks) (suc (suc n)) = K × FirstBroken Ks (suc n)

-- the same of a list of tests, as a number
abbrev pub next : ℕ → ℕ
next zero = 0
next (suc n) = suc (suc n)

abbrev pub first_failed : List Bool → ℕ
first_failed [] = 0
first_failed (b ∷ bs) = unless b 1 (next (first_failed bs))

-- the tests say the rules, one by one
pub data Tests : List Bool → List (Type 0) → Type 1 where
  none : Tests [] []
  also : {b : Bool} {K : Type 0} {bs : List Bool} {Ks : List (Type 0)} → Says b K → Tests bs Ks → Tests (b ∷ bs) (K ∷ Ks)

next_one : (n : ℕ) → next n ≡ 1 → ⊥
next_one zero e = omega arith
next_one (suc n) e = omega arith

next_zero : (n : ℕ) → next n ≡ 0 → n ≡ 0
next_zero zero e = refl
next_zero (suc n) e = absurd (omega arith)

next_suc : (n m : ℕ) → next n ≡ suc (suc m) → n ≡ suc m
next_suc zero m e = absurd (omega arith)
next_suc (suc n) m e = omega arith

module _ (K : Type 0) (Ks : List (Type 0)) (x : ℕ) (ih : (n : ℕ) → (x ≡ n) ↔ FirstBroken Ks n) where
  kept : K → (n : ℕ) → (next x ≡ n) ↔ FirstBroken (K ∷ Ks) n
  kept k zero = (λ e. (k, (ih 0).0 (next_zero x e)), λ h. ap next ((ih 0).1 h.1))
  kept k (suc zero) = (λ e. absurd (next_one x e), λ h. absurd (h k))
  kept k (suc (suc n)) = (λ e. (k, (ih (suc n)).0 (next_suc x n e)), λ h. ap next ((ih (suc n)).1 h.1))

  broken : (K → ⊥) → (n : ℕ) → (1 ≡ n) ↔ FirstBroken (K ∷ Ks) n
  broken k zero = (λ e. absurd (omega arith), λ h. absurd (k h.0))
  broken k (suc zero) = (λ e. k, λ h. refl)
  broken k (suc (suc n)) = (λ e. absurd (omega arith), λ h. absurd (k h.0))

pub first_broken : {bs : List Bool} {Ks : List (Type 0)} → Tests bs Ks → (n : ℕ) → (first_failed bs ≡ n) ↔ FirstBroken Ks n
first_broken none zero = (λ e. tt, λ h. refl)
first_broken none (suc n) = (λ e. absurd (omega arith), λ h. absurd h)
first_broken (also {b = b} {K = K} {bs = bs} {Ks = Ks} s ts) n = by b s (first_broken ts)
  where
    by : (c : Bool) → Says c K → ((m : ℕ) → (first_failed bs ≡ m) ↔ FirstBroken Ks m)
        → (unless c 1 (next (first_failed bs)) ≡ n) ↔ FirstBroken (K ∷ Ks) n
    by true u ih = kept K Ks (first_failed bs) ih (u.right refl) n
    by false u ih = broken K Ks (first_failed bs) ih (λ k. never (u.all k)) n
