-- A tick, seen from one farm: its slot is moved by its own tick, and of the entries those on its rows are its own.
-- Assumes nothing.
use Prim.Native.Nat.{ℕ, zero, suc, ◌+◌, ◌-◌, ◌≤◌, ◌<◌}
use mathlib.Core.Path.{◌≡◌, refl, ap, subst, ◌∙◌}
use mathlib.Core.Bool.{Bool, true, false}
use mathlib.Core.List.{List, [], ◌∷◌, ◌++◌, append-nil}
use native.Mathlib.Omega.{arith}
use lib.Dec.{leb, ltb}
use lib.ListN.{length}
use borrow.Author.Tests.{ltb-true, lt-ltb, leb-true}
use Rattle.octets.specs.Search.{all}
use Rattle.octets.proofs.ChoiceLaws.{both_left, both_right}
use Rattle.kinds.specs.declared.Item.{Item}
use Rattle.sheet.specs.Sheet.{farm_count}
use Rattle.sheet.specs.Rows.{rows_owned, first_row}
use Rattle.sheet.proofs.RowsLaws.{rows_apart}
use Rattle.model.specs.FarmSheet.{FarmSheet, farm_sheet, slot_sheet}
use Rattle.model.specs.Move.{Held, tick_move}
use Rattle.model.specs.RuleTest.{good_farm}
use Rattle.model.specs.Table.{Table, slot, good_from, held_by, items_by, slot_tick, tick_table, tick_items}
use Rattle.model.specs.History.{on_row, keep}
use Rattle.model.proofs.Cases.{split}
use Rattle.model.proofs.RuleTestLaws.{farm-says}
use Rattle.model.proofs.SoundMain.{tick-items_own}

-- ---- entries on a farm's rows

keep_append : {A : Type 0} (p : A → Bool) (l k : List A) → keep p (l ++ k) ≡ keep p l ++ keep p k
keep_append p [] k = refl
keep_append p (x ∷ l) k =
    split (p x) (λ e. rw e (ap (λ m. x ∷ m) (keep_append p l k))) (λ e. rw e (keep_append p l k))

keep_all : {A : Type 0} (p : A → Bool) (l : List A) → all p l ≡ true → keep p l ≡ l
unfolding all
keep_all p [] e = refl
keep_all p (x ∷ l) e =
    let a : p x ≡ true = both_left (p x) (all p l) e in rw a (ap (λ m. x ∷ m) (keep_all p l (both_right (p x) (all p l) e)))

-- where one test excludes the other
keep-none : {A : Type 0} (p q : A → Bool) → ((x : A) → q x ≡ true → p x ≡ false) → (l : List A) → all q l ≡ true → keep p l ≡ []
unfolding all
keep-none p q apart [] e = refl
keep-none p q apart (x ∷ l) e =
    let a : p x ≡ false = apart x (both_left (q x) (all q l) e) in
    rw a (keep-none p q apart l (both_right (q x) (all q l) e))

pub slot-sheet : (s : List ℕ) (f : ℕ) → f < farm_count s → slot_sheet s f ≡ farm_sheet s f
unfolding slot_sheet
slot-sheet s f h = rw (lt-ltb f (farm_count s) h)

-- the row is one of the farm's
row_of_lem : (s : List ℕ) (f : ℕ) → f < farm_count s → (it : Item) → on_row (slot_sheet s f) it ≡ true
    → (first_row s f ≤ it.row.0) × (it.row.0 < first_row s f + rows_owned s f)
unfolding farm_sheet
row_of_lem s f h it e =
    let a : on_row (farm_sheet s f) it ≡ true = rw (slot-sheet s f h) at e in (
      leb-true (first_row s f) it.row.0 (both_left (leb (first_row s f) it.row.0) (ltb it.row.0 (first_row s f + rows_owned s f)) a),
      ltb-true it.row.0 (first_row s f + rows_owned s f)
          (both_right (leb (first_row s f) it.row.0) (ltb it.row.0 (first_row s f + rows_owned s f)) a),
    )

-- an entry on one farm's rows is not on another's
other_row : (s : List ℕ) (f g : ℕ) → f < farm_count s → g < farm_count s → (f ≡ g → ⊥) → (it : Item) → on_row (slot_sheet s f) it ≡ true
    → on_row (slot_sheet s g) it ≡ false
other_row s f g hf hg ne it e =
    split (on_row (slot_sheet s g) it)
    (λ d.
    let a = row_of_lem s f hf it e in
    let b = row_of_lem s g hg it d in
    absurd
    (rows_apart s f g (it.row.0 - first_row s f) (it.row.0 - first_row s g) hf hg
    (omega (arith, a.0, a.1)) (omega (arith, b.0, b.1)) ne (omega (arith, a.0, b.0))))
    (λ d. d)

-- a farm's part of a tick is on its own rows
tick_own : (own : FarmSheet) (h : Held) → good_farm own h.farm ≡ true → all (on_row own) (items_by (tick_move own h)) ≡ true
unfolding tick_move
tick_own own h e = tick-items_own h.farm ((farm-says own h.farm).right e)

module _ (s : List ℕ) (g : ℕ) (inSheet : g < farm_count s) where
  -- the part of another slot has no entry on its rows
  other_part : (f : ℕ) (h : Held) → (f ≡ g → ⊥) → good_farm (slot_sheet s f) h.farm ≡ true
      → keep (on_row (slot_sheet s g)) (items_by (slot_tick s f h)) ≡ []
  other_part f h ne e =
      split (ltb f (farm_count s))
      (λ l.
      let k : f < farm_count s = ltb-true f (farm_count s) l in
      rw l
      (keep-none (on_row (slot_sheet s g)) (on_row (slot_sheet s f)) (other_row s f g k inSheet ne)
      (items_by (tick_move (slot_sheet s f) h)) (tick_own (slot_sheet s f) h e)))
      (λ l. rw l)

  own_tick : (h : Held) → slot_tick s g h ≡ tick_move (slot_sheet s g) h
  own_tick h = rw (lt-ltb g (farm_count s) inSheet)

  own_part : (h : Held) → good_farm (slot_sheet s g) h.farm ≡ true
      → keep (on_row (slot_sheet s g)) (items_by (slot_tick s g h)) ≡ items_by (tick_move (slot_sheet s g) h)
  own_part h e = rw (own_tick h) (keep_all (on_row (slot_sheet s g)) (items_by (tick_move (slot_sheet s g) h)) (tick_own (slot_sheet s g) h e))

  -- slots from k on, all behind farm g
  none-behind : (k : ℕ) (t : Table) → g < k → good_from s k t ≡ true → keep (on_row (slot_sheet s g)) (tick_items s k t) ≡ []
  none-behind k [] l e = refl
  none-behind k (h ∷ t) l e =
      rw (keep_append (on_row (slot_sheet s g)) (items_by (slot_tick s k h)) (tick_items s (suc k) t))
      (rw (other_part k h (λ z. omega arith) (both_left (good_farm (slot_sheet s k) h.farm) (good_from s (suc k) t) e))
      (none-behind (suc k) t (omega arith) (both_right (good_farm (slot_sheet s k) h.farm) (good_from s (suc k) t) e)))

  -- slots from k on, farm g's the i-th of them
  pub part_of : (k i : ℕ) (t : Table) → k + i ≡ g → i < length t → good_from s k t ≡ true
      → keep (on_row (slot_sheet s g)) (tick_items s k t) ≡ items_by (tick_move (slot_sheet s g) (slot t i))
  part_of k i [] z l e = absurd (omega arith)
  part_of k zero (h ∷ t) z l e =
      let q : k ≡ g = omega arith in
      let a : good_farm (slot_sheet s k) h.farm ≡ true = both_left (good_farm (slot_sheet s k) h.farm) (good_from s (suc k) t) e in
      keep_append (on_row (slot_sheet s g)) (items_by (slot_tick s k h)) (tick_items s (suc k) t)
      ∙ ap (λ (m : List Item). keep (on_row (slot_sheet s g)) (items_by (slot_tick s k h)) ++ m)
      (none-behind (suc k) t (omega arith) (both_right (good_farm (slot_sheet s k) h.farm) (good_from s (suc k) t) e))
      ∙ append-nil (keep (on_row (slot_sheet s g)) (items_by (slot_tick s k h)))
      ∙ ap (λ (j : ℕ). keep (on_row (slot_sheet s g)) (items_by (slot_tick s j h))) q
      ∙ own_part h (subst (λ (j : ℕ). good_farm (slot_sheet s j) h.farm ≡ true) q a)
  part_of k (suc i) (h ∷ t) z l e =
      rw (keep_append (on_row (slot_sheet s g)) (items_by (slot_tick s k h)) (tick_items s (suc k) t))
      (rw (other_part k h (λ y. omega arith) (both_left (good_farm (slot_sheet s k) h.farm) (good_from s (suc k) t) e))
      (part_of (suc k) i t (omega arith) (omega arith) (both_right (good_farm (slot_sheet s k) h.farm) (good_from s (suc k) t) e)))

  pub tick-slot : (k i : ℕ) (t : Table) → k + i ≡ g → i < length t
      → slot (tick_table s k t) i ≡ held_by (slot t i) (tick_move (slot_sheet s g) (slot t i))
  tick-slot k i [] z l = absurd (omega arith)
  tick-slot k zero (h ∷ t) z l = ap (λ (j : ℕ). held_by h (slot_tick s j h)) (let q : k ≡ g = omega arith in q) ∙ ap (held_by h) (own_tick h)
  tick-slot k (suc i) (h ∷ t) z l = tick-slot (suc k) i t (omega arith) (omega arith)
