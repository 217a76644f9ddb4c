-- "The answer is the one the rules give at the moment of deciding.", of every call on the table, and along a history: whoever is answered
-- is answered with the code that the rules then give.
-- Assumes nothing.
use Prim.Native.Nat.{ℕ, suc, ◌+◌, ◌<◌}
use mathlib.Core.Path.{◌≡◌, refl, sym, subst}
use mathlib.Core.Logic.{⊎_elim}
use mathlib.Core.List.Memᴰ
use mathlib.Core.List.{List, [], ◌∷◌, Memᴰ}
use native.Mathlib.Omega.{arith}
use lib.Dec.{ltb}
use borrow.Author.Tests.{ltb-true}
use Rattle.kinds.specs.declared.Item.{Item}
use Rattle.kinds.specs.declared.Reply.TheVariants.{Activation}
use Rattle.sheet.specs.Sheet.{farm_count}
use Rattle.model.specs.FarmSheet.{slot_sheet}
use Rattle.model.specs.Move.{Move, refused, gave, move, tick_move}
use Rattle.model.specs.Table.{Table, slot, Call, Lent, Whose, nobodys, farms, everyones, whose, Outcome, moved_to, items_by, slot_tick, tick_items, called, step, items_of, table_of}
use Rattle.model.specs.History.{Made, step_of}
use Rattle.model.specs.Words.{Answered, answers, entries_in, Reasoned, by_call, by_tick, Decided, here, later}
use Rattle.model.proofs.Cases.{pick_case}
use Rattle.model.proofs.CodeMoment.{Each, none_each, append_each}
use Rattle.model.proofs.CodeTold.{move_why, tick_why}
use Rattle.model.proofs.HandOnTable.{step_case}

-- what holds of the entries of each farm's tick holds of those of the tick
ticks-each : (Q : Item → Type 0) (s : List ℕ) (k : ℕ) (u : Table)
    → ((i : ℕ) → k + i < farm_count s → Each Q (items_by (tick_move (slot_sheet s (k + i)) (slot u i)))) → Each Q (tick_items s k u)
ticks-each Q s k [] f = none_each Q
ticks-each Q s k (h ∷ u) f =
    append_each Q (items_by (slot_tick s k h)) (tick_items s (suc k) u)
    (pick_case (λ (m : Move). Each Q (items_by m)) (ltb k (farm_count s)) _ _
    (λ e.
    let z : k + 0 ≡ k = omega arith in
    subst (λ (x : ℕ). Each Q (items_by (tick_move (slot_sheet s x) h))) z (f 0 (omega (arith, ltb-true k (farm_count s) e)))) (λ e. none_each Q))
    (ticks-each Q s (suc k) u
    (λ i l.
    let z : k + suc i ≡ suc k + i = omega arith in
    subst (λ (x : ℕ). Each Q (items_by (tick_move (slot_sheet s x) (slot u i)))) z (f (suc i) (omega arith))))

-- an entry that is a response 0006 has its reason
abbrev Has-reason : List ℕ → Table → Call → Item → Type 0
Has-reason s t c it = (a e k : ℕ) → it.reply ≡ Activation a e k → Reasoned s t c it

moved_items : (Q : Item → Type 0) (t : Table) (f : ℕ) (m : Move) → Each Q (items_by m) → Each Q (items_of (moved_to t f m))
moved_items Q t f (refused n) k = k
moved_items Q t f (gave g) k = k

-- EVERY RESPONSE 0006 OF A CALL ON THE TABLE, whatever the sheet, the table and the buffers, has the code that the rules give.
pub step-reasoned : (s : List ℕ) (l : Lent) (t : Table) (c : Call) → Each (Has-reason s t c) (items_of (step s l t c))
step-reasoned s l t c =
    step_case (λ (o : Outcome). Each (Has-reason s t c) (items_of o)) s l t c (λ n. none_each (Has-reason s t c)) (λ g. by (whose s c) refl)
  where
    by : (w : Whose) → whose s c ≡ w → Each (Has-reason s t c) (items_of (called s t w))
    by (nobodys n) e = none_each (Has-reason s t c)
    by (farms f own) e =
        moved_items (Has-reason s t c) t f (move (slot_sheet s f) (slot t f) own)
        (λ it m a b k r. by_call f own e (move_why (slot_sheet s f) (slot t f) own it m a b k r))
    by everyones e =
        ticks-each (Has-reason s t c) s 0 t
        (λ i l.
        let z : 0 + i ≡ i = omega arith in
        subst (λ (x : ℕ). Each (Has-reason s t c) (items_by (tick_move (slot_sheet s x) (slot t i)))) (sym z)
        (λ it m a b k r. by_tick i (omega arith) e (tick_why (slot_sheet s i) (slot t i) it m a b k r)))

-- WHOEVER IS ANSWERED IN A HISTORY is answered by the rules.
pub answered-decided : (s : List ℕ) (row address : ℕ) (t : Table) (ms : List Made) → Answered row address (entries_in s t ms) → Decided s row address t ms
unfolding entries_in
answered-decided s row address t [] (answers e c m) = absurd (Memᴰ.not-nil m)
answered-decided s row address t (x ∷ ms) (answers e c m) =
    ⊎_elim (λ n. here e c n (step-reasoned s x.lent t x.call _ n address e c refl))
    (λ n. later (answered-decided s row address (table_of t (step_of s t x)) ms (answers e c n))) (Memᴰ.append_cases (items_of (step_of s t x)) m)
