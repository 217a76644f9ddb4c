-- Demand 2: "A tester's address is never active on two connections."
-- Assumes nothing.
use Rattle.std.proofs.Common.{Option, Some, None}
use Rattle.sheet.specs.declared.find.Known.{Known}
use Prim.Native.Nat.{ℕ, zero, suc, ◌≤◌, ◌<◌}
use mathlib.Core.Path.{◌≡◌, refl, sym, ap, subst, ◌∙◌}
use mathlib.Core.Bool.{Bool, true, false}
use mathlib.Core.List.{List, [], ◌∷◌}
use native.Mathlib.Omega.{arith}
use lib.Dec.{ltb}
use lib.ListN.{length}
use borrow.Author.Tests.{eqb-true}
use Rattle.octets.specs.Choice.{pick, one}
use Rattle.octets.specs.Search.{count_if}
use Rattle.octets.proofs.SaysLaws.{never}
use Rattle.kinds.specs.declared.RowState.{RowState}
use Rattle.kinds.specs.declared.RowState.TheVariants.{Free, Fresh, Waiting, Active}
use Rattle.kinds.specs.declared.Row.{Row}
use Rattle.sheet.specs.Sheet.{farm_count, testers_of}
use Rattle.sheet.specs.Find.{lookup}
use Rattle.model.specs.FarmSheet.{FarmSheet, tester_by, farm_sheet, no_farm, slot_sheet}
use Rattle.model.specs.Row.{row_at, active_as, active_as_state}
use Rattle.model.specs.Farm.{Farm, seat_count, new_farm}
use Rattle.model.specs.Rule.{RowKeeps, Good}
use Rattle.model.specs.Table.{Table, slot, good_table}
use Rattle.model.specs.History.{Made, fresh, run}
use Rattle.model.proofs.Rows.{count-some, row_free}
use Rattle.model.proofs.TableTest.{table-says, history_test}

-- ---- within a farm: what is counted once stands at one place

pub once-place : (p : Row → Bool) → p (row_at [] 0) ≡ false → (rows : List Row) → count_if p rows ≤ 1 → (i j : ℕ) → p (row_at rows i) ≡ true
    → p (row_at rows j) ≡ true → i ≡ j
unfolding count_if
once-place p n [] h i j a b = absurd (never (sym n ∙ a))
once-place p n (x ∷ xs) h zero zero a b = refl
once-place p n (x ∷ xs) h zero (suc j) a b =
    let z : one (p x) ≡ 1 = ap one a in absurd (omega (arith, count-some p n xs j b))
once-place p n (x ∷ xs) h (suc i) zero a b =
    let z : one (p x) ≡ 1 = ap one b in absurd (omega (arith, count-some p n xs i a))
once-place p n (x ∷ xs) h (suc i) (suc j) a b = ap suc (once-place p n xs (omega arith) i j a b)

-- ---- across farms: an active address is a tester of that farm, and the sheet knows a tester once

tester_keeps : (own : FarmSheet) (r : Row) (st : RowState) (a : ℕ) → RowKeeps own r st → active_as_state a st ≡ true → own.tester a ≡ true
tester_keeps own r Free a k e = absurd (never e)
tester_keeps own r (Fresh age) a k e = absurd (never e)
tester_keeps own r (Waiting q) a k e = absurd (never e)
tester_keeps own r (Active b idle) a k e = subst (λ (c : ℕ). own.tester c ≡ true) (eqb-true b a e) k

-- a tester of a slot's farm is the sheet's tester with that farm
tester_of_lem : (s : List ℕ) (f a : ℕ) → (slot_sheet s f).tester a ≡ true → tester_by f (lookup a (testers_of s)) ≡ true
unfolding slot_sheet farm_sheet no_farm
tester_of_lem s f a e = by (ltb f (farm_count s)) e
  where
    by : (b : Bool) → (pick b (farm_sheet s f) no_farm).tester a ≡ true → tester_by f (lookup a (testers_of s)) ≡ true
    by true k = k
    by false k = absurd (never k)

one-farm : (f g : ℕ) (x : Option Known) → tester_by f x ≡ true → tester_by g x ≡ true → f ≡ g
one-farm f g (Some k) a b = sym (eqb-true k.farm.0 f a) ∙ eqb-true k.farm.0 g b
one-farm f g None a b = absurd (never a)

-- ---- "A tester's address is never active on two connections."

-- The row i of farm f and the row j of farm g, both active with one address, are one row: of any two farms that keep rule 4 under one sheet.
pub address-once : (s : List ℕ) (farm : ℕ → Farm) (f g : ℕ) → Good (slot_sheet s f) (farm f) → Good (slot_sheet s g) (farm g) → (i j a : ℕ)
    → active_as a (row_at (farm f).rows i) ≡ true → active_as a (row_at (farm g).rows j) ≡ true → (f ≡ g) × (i ≡ j)
address-once s farm f g p q i j a x y =
    let same : f ≡ g =
    one-farm f g (lookup a (testers_of s))
    (tester_of_lem s f a (tester_keeps (slot_sheet s f) (row_at (farm f).rows i) (row_at (farm f).rows i).state a (p.rows_keep i) x))
    (tester_of_lem s g a (tester_keeps (slot_sheet s g) (row_at (farm g).rows j) (row_at (farm g).rows j).state a (q.rows_keep j) y)) in (
      same,
      once-place (active_as a) refl (farm f).rows (p.active_once a) i j x
          (subst (λ (k : ℕ). active_as a (row_at (farm k).rows j) ≡ true) (sym same) y),
    )

-- ---- of a table

-- no row is active where there is no slot
pub active_slot : (t : Table) (f i a : ℕ) → active_as a (row_at (slot t f).farm.rows i) ≡ true → f < length t
unfolding new_farm
active_slot [] f i a e = absurd (never (sym (ap (active_as a) (row_free seat_count i)) ∙ e))
active_slot (h ∷ t) zero i a e = omega arith
active_slot (h ∷ t) (suc f) i a e = omega (arith, active_slot t f i a e)

-- Of a table that keeps rule 4: row i of farm f and row j of farm g, both active with one address, are one row.
pub table-once : (s : List ℕ) (t : Table) → good_table s t ≡ true → (f g i j a : ℕ) → active_as a (row_at (slot t f).farm.rows i) ≡ true
    → active_as a (row_at (slot t g).farm.rows j) ≡ true → (f ≡ g) × (i ≡ j)
table-once s t k f g i j a x y =
    address-once s (λ f. (slot t f).farm) f g ((table-says s t).right k f (active_slot t f i a x))
    ((table-says s t).right k g (active_slot t g j a y)) i j a x y

-- ---- of a history

-- THE SINGLE ADDRESS. "A tester's address is never active on two connections": after any history from a fresh table, under any sheet.
pub history_once : (s : List ℕ) (rooms : List (List (List ℕ))) (ms : List Made) (f g i j a : ℕ)
    → active_as a (row_at (slot (run s (fresh rooms) ms) f).farm.rows i) ≡ true
    → active_as a (row_at (slot (run s (fresh rooms) ms) g).farm.rows j) ≡ true → (f ≡ g) × (i ≡ j)
history_once s rooms ms f g i j a x y = table-once s (run s (fresh rooms) ms) (history_test s rooms ms) f g i j a x y
