-- What a call on the table does to one slot of it.
-- Assumes nothing.
use Prim.Native.Nat.{ℕ, zero, suc, ◌+◌, ◌<◌}
use mathlib.Core.Path.{◌≡◌, refl, sym, ap, subst}
use mathlib.Core.List.{List, [], ◌∷◌}
use native.Mathlib.Nat.{add-zero, not-suc-le-zero}
use native.Mathlib.Omega.{arith}
use lib.Dec.{eqb, leb}
use lib.ListN.{set, length, length-set}
use Rattle.sheet.specs.Test.{good_sheet}
use Rattle.model.specs.FarmSheet.{slot_sheet}
use Rattle.model.specs.Move.{Own, Held, Move, refused, gave, move}
use Rattle.model.specs.Table.{Table, slot, least_output, assembling_size, Whose, nobodys, farms, everyones, whose, Outcome, refuses, moved_to, held_by, slot_tick, tick_table, called, good_table, step, table_of}
use Rattle.model.specs.History.{Made, step_of}
use Rattle.model.proofs.Cases.{unless_case}

-- what holds of every refusal and of a call that is past refusals 1 to 4
pub step_cases : (P : Outcome → Type 0) (s : List ℕ) (t : Table) (m : Made) → ((n : ℕ) → P (refuses n)) → P (called s t (whose s m.call))
    → P (step_of s t m)
unfolding step
step_cases P s t m r c =
    unless_case P (good_sheet s) _ _ (λ _. r 1)
    (λ _. unless_case P (leb least_output m.lent.output) _ _ (λ _. r 2)
    (λ _. unless_case P (eqb m.lent.assembling assembling_size) _ _ (λ _. r 3)
    (λ _. unless_case P (good_table s t) _ _ (λ _. r 4) (λ _. c))))

pub next_one : (a b : ℕ) → a + suc b ≡ suc a + b
next_one a b = omega arith

pub slot-set : (P : Held → Type 0) (t : Table) (f g : ℕ) (h : Held) → (f ≡ g → P h) → P (slot t g) → P (slot (set t f h) g)
slot-set P [] f g h a b = b
slot-set P (x ∷ t) zero zero h a b = a refl
slot-set P (x ∷ t) zero (suc g) h a b = b
slot-set P (x ∷ t) (suc f) zero h a b = b
slot-set P (x ∷ t) (suc f) (suc g) h a b = slot-set P t f g h (λ e. a (ap suc e)) b

pub slot-tick : (P : Held → Type 0) (s : List ℕ) (k : ℕ) (t : Table) (g : ℕ) → P (held_by (slot t g) (slot_tick s (k + g) (slot t g))) → P (slot t g)
    → P (slot (tick_table s k t) g)
slot-tick P s k [] g a b = b
slot-tick P s k (x ∷ t) zero a b = subst (λ (n : ℕ). P (held_by x (slot_tick s n x))) (add-zero k) a
slot-tick P s k (x ∷ t) (suc g) a b =
    slot-tick P s (suc k) t g (subst (λ (n : ℕ). P (held_by (slot t g) (slot_tick s n (slot t g)))) (next_one k g) a) b

-- the same where the table has the slot
pub slot-ticked : (P : Held → Type 0) (s : List ℕ) (k : ℕ) (t : Table) (g : ℕ) → g < length t → P (held_by (slot t g) (slot_tick s (k + g) (slot t g)))
    → P (slot (tick_table s k t) g)
slot-ticked P s k [] g l a = absurd (not-suc-le-zero l)
slot-ticked P s k (x ∷ t) zero l a = subst (λ (n : ℕ). P (held_by x (slot_tick s n x))) (add-zero k) a
slot-ticked P s k (x ∷ t) (suc g) l a =
    slot-ticked P s (suc k) t g (omega arith) (subst (λ (n : ℕ). P (held_by (slot t g) (slot_tick s n (slot t g)))) (next_one k g) a)

-- no call changes how many slots there are
tick-length : (s : List ℕ) (k : ℕ) (t : Table) → length (tick_table s k t) ≡ length t
tick-length s k [] = refl
tick-length s k (x ∷ t) = ap suc (tick-length s (suc k) t)

moved_length : (t : Table) (f : ℕ) (m : Move) → length (table_of t (moved_to t f m)) ≡ length t
moved_length t f (refused n) = refl
moved_length t f (gave x) = length-set t f x.held

called-length : (s : List ℕ) (t : Table) (w : Whose) → length (table_of t (called s t w)) ≡ length t
called-length s t (nobodys n) = refl
called-length s t (farms f c) = moved_length t f (move (slot_sheet s f) (slot t f) c)
called-length s t everyones = tick-length s 0 t

pub step-length : (s : List ℕ) (t : Table) (m : Made) → length (table_of t (step_of s t m)) ≡ length t
step-length s t m = step_cases (λ (o : Outcome). length (table_of t o) ≡ length t) s t m (λ _. refl) (called-length s t (whose s m.call))

-- what the farm's own calls and the ticks keep, every call keeps
module _ (P : Held → Type 0) (s : List ℕ) (g : ℕ) (t : Table) (old : P (slot t g))
    (moves : (c : Own) → P (held_by (slot t g) (move (slot_sheet s g) (slot t g) c))) (ticks : P (held_by (slot t g) (slot_tick s g (slot t g)))) where
  moved_slot : (f : ℕ) (m : Move) → (f ≡ g → P (held_by (slot t f) m)) → P (slot (table_of t (moved_to t f m)) g)
  moved_slot f (refused n) a = old
  moved_slot f (gave x) a = slot-set P t f g x.held a old

  called-slot : (w : Whose) → P (slot (table_of t (called s t w)) g)
  called-slot (nobodys n) = old
  called-slot (farms f c) =
      moved_slot f (move (slot_sheet s f) (slot t f) c)
      (λ e. subst (λ (k : ℕ). P (held_by (slot t k) (move (slot_sheet s k) (slot t k) c))) (sym e) (moves c))
  called-slot everyones = slot-tick P s 0 t g (subst (λ (k : ℕ). P (held_by (slot t g) (slot_tick s k (slot t g)))) (add_left g) ticks) old
    where
      add_left : (n : ℕ) → n ≡ 0 + n
      add_left n = omega arith

  pub step-slot : (m : Made) → P (slot (table_of t (step_of s t m)) g)
  step-slot m = step_cases (λ (o : Outcome). P (slot (table_of t o) g)) s t m (λ _. old) (called-slot (whose s m.call))
