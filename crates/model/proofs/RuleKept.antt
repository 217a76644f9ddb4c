-- Rule 4 is kept: by every call of a farm, by every call on a table, and so through every history.
-- Assumes nothing.
use Prim.{Unit, tt}
use Prim.Native.Nat.{ℕ, zero, suc, ◌+◌, ◌≤◌, ◌<◌}
use mathlib.Core.Path.{◌≡◌, refl, subst}
use mathlib.Core.List.{List, [], ◌∷◌, map}
use native.Mathlib.Omega.{arith}
use lib.Dec.{eqb, leb, ltb}
use lib.ListN.{set}
use borrow.Author.Tests.{lt-ltb}
use Rattle.sheet.specs.Sheet.{most_quota, farm_count}
use Rattle.sheet.specs.Rules.{GoodSheet}
use Rattle.sheet.specs.Test.{good_sheet}
use Rattle.sheet.proofs.RowsLaws.{owned_few}
use Rattle.model.specs.FarmSheet.{FarmSheet, farm_sheet, slot_sheet}
use Rattle.model.specs.Farm.{Farm, seat_count, new_farm}
use Rattle.model.specs.Move.{Own, Held, Given, Move, refused, gave, ticked, move, tick_move}
use Rattle.model.specs.Table.{Table, slot, good_table, Call, Lent, least_output, assembling_size, Whose, nobodys, farms, everyones, whose, Did, Outcome, refuses, did, moved_to, held_by, slot_tick, tick_table, called, if_lent, step, renewed, start_step, table_of}
use Rattle.model.specs.History.{Made, fresh, step_of, run}
use Rattle.model.specs.Rule.{Good}
use Rattle.model.proofs.Cases.{pick_case, unless_case}
use Rattle.model.proofs.RuleParts.{sound_of, good_of, FarmOk}
use Rattle.model.proofs.Tidy.{TidyMove, tidy_new, tidy-move, tidy-ticked}
use Rattle.model.proofs.SoundMain.{new_sound}
use Rattle.model.proofs.SoundMove.{KeepsSound, move_keeps, ticked_sound}
use Rattle.model.proofs.Settling.{new_calm}
use Rattle.model.proofs.CalmMove.{move_calm, tick_calm}

-- ---- a farm's part of a good sheet

-- a farm has room for the rows of the greatest quota
pub rows_fit : most_quota + 1 ≤ seat_count
unfolding seat_count
rows_fit = omega arith

pub farm-ok : (s : List ℕ) (f : ℕ) → GoodSheet s → f < farm_count s → FarmOk (farm_sheet s f)
unfolding farm_sheet
farm-ok s f g h = record { some = (g.farms.each_farm f h).quota_at_least; rooms = omega (arith, owned_few s f g h, rows_fit) }

pub slot_ok : (s : List ℕ) (f : ℕ) → GoodSheet s → f < farm_count s → FarmOk (slot_sheet s f)
unfolding slot_sheet
slot_ok s f g h = rw (lt-ltb f (farm_count s) h) (farm-ok s f g h)

-- ---- each slot of a table keeps the rules; one beyond the sheet's farms owns no row

abbrev pub GoodAll : List ℕ → ℕ → Table → Type 0
GoodAll s i [] = Unit {0}
GoodAll s i (h ∷ t) = Good (slot_sheet s i) h.farm × GoodAll s (suc i) t

pub set-good : (s : List ℕ) (i n : ℕ) (t : Table) (f : ℕ) (h : Held) → i + f ≡ n → GoodAll s i t
    → Good (slot_sheet s n) h.farm → GoodAll s i (set t f h)
set-good s i n [] f h e k g = tt
set-good s i n (x ∷ t) zero h e k g = (subst (λ (m : ℕ). Good (slot_sheet s m) h.farm) (omega arith) g, k.1)
set-good s i n (x ∷ t) (suc f) h e k g = (k.0, set-good s (suc i) n t f h (omega arith) k.1 g)

-- ---- one farm

-- A NEW FARM keeps the rules of every sheet.
pub new_good : (own : FarmSheet) → Good own new_farm
new_good own = good_of new_sound (new_calm own) tidy_new

-- EVERY ACCEPTED CALL OF A FARM keeps rule 4.
pub move-good : {own : FarmSheet} (h : Held) (c : Own) (g : Given) → Good own h.farm → move own h c ≡ gave g → Good own g.held.farm
move-good {own} h c g k e = good_of (subst (KeepsSound own) e (move_keeps h c (sound_of k))) (move_calm h c g k e) (subst (TidyMove own) e (tidy-move own h c k.tidy))

-- SO DOES THE TICK OF A FARM.
pub tick-good : {own : FarmSheet} (f : Farm) → Good own f → Good own (ticked own f).farm
tick-good {own} f k = good_of (ticked_sound (sound_of k)) (tick_calm f k) (tidy-ticked own f k.tidy)

-- ---- over the table

pub slot-good : (s : List ℕ) (i n : ℕ) (t : Table) (f : ℕ) → i + f ≡ n → GoodAll s i t → Good (slot_sheet s n) (slot t f).farm
slot-good s i n [] f e k = new_good (slot_sheet s n)
slot-good s i n (x ∷ t) zero e k = subst (λ (m : ℕ). Good (slot_sheet s m) x.farm) (omega arith) k.0
slot-good s i n (x ∷ t) (suc f) e k = slot-good s (suc i) n t f (omega arith) k.1

moved_good : (s : List ℕ) (t : Table) (f : ℕ) (c : Own) → GoodAll s 0 t → (m : Move)
    → move (slot_sheet s f) (slot t f) c ≡ m → GoodAll s 0 (table_of t (moved_to t f m))
moved_good s t f c k (refused n) e = k
moved_good s t f c k (gave v) e =
    set-good s 0 f t f v.held (omega arith) k
    (move-good (slot t f) c v (slot-good s 0 f t f (omega arith) k) e)

slot_tick-good : (s : List ℕ) (i : ℕ) (h : Held) → Good (slot_sheet s i) h.farm
    → Good (slot_sheet s i) (held_by h (slot_tick s i h)).farm
unfolding tick_move
slot_tick-good s i h k =
    pick_case (λ m. Good (slot_sheet s i) (held_by h m).farm) (ltb i (farm_count s)) _ _
    (λ t. tick-good h.farm k) (λ t. k)

ticks-good : (s : List ℕ) (i : ℕ) (t : Table) → GoodAll s i t → GoodAll s i (tick_table s i t)
ticks-good s i [] k = tt
ticks-good s i (h ∷ t) k = (slot_tick-good s i h k.0, ticks-good s (suc i) t k.1)

called-good : (s : List ℕ) (t : Table) (w : Whose) → GoodAll s 0 t → GoodAll s 0 (table_of t (called s t w))
called-good s t (nobodys n) k = k
called-good s t (farms f c) k = moved_good s t f c k (move (slot_sheet s f) (slot t f) c) refl
called-good s t everyones k = ticks-good s 0 t k

-- what holds of the table as it was and of the outcome behind the first refusals
lent_case : (P : Outcome → Type 0) (s : List ℕ) (l : Lent) (o : Outcome) → ((n : ℕ) → P (refuses n)) → P o → P (if_lent s l o)
lent_case P s l o r p =
    unless_case P (good_sheet s) _ _ (λ e. r 1)
    (λ e. unless_case P (leb least_output l.output) _ _ (λ u. r 2)
    (λ u. unless_case P (eqb l.assembling assembling_size) _ _ (λ v. r 3) (λ v. p)))

renewed-good : (s : List ℕ) (i : ℕ) (t : Table) → GoodAll s i (renewed t)
renewed-good s i [] = tt
renewed-good s i (h ∷ t) = (new_good (slot_sheet s i), renewed-good s (suc i) t)

-- EVERY CALL ON A TABLE keeps rule 4 in every slot, under any sheet: a refused one leaves the table as it was.
pub step_keeps : (s : List ℕ) (l : Lent) (t : Table) (c : Call) → GoodAll s 0 t → GoodAll s 0 (table_of t (step s l t c))
unfolding step
step_keeps s l t c k =
    lent_case (λ o. GoodAll s 0 (table_of t o)) s l _ (λ n. k)
    (unless_case (λ o. GoodAll s 0 (table_of t o)) (good_table s t) _ _ (λ e. k) (λ e. called-good s t (whose s c) k))

-- the same, of an accepted call
pub step-good : (s : List ℕ) (l : Lent) (t : Table) (c : Call) (d : Did) → GoodAll s 0 t → step s l t c ≡ did d
    → GoodAll s 0 d.table
step-good s l t c d k e = subst (λ (o : Outcome). GoodAll s 0 (table_of t o)) e (step_keeps s l t c k)

-- AN ACCEPTED START leaves every slot keeping rule 4, whatever the table was.
pub start_good : (s : List ℕ) (l : Lent) (t : Table) (d : Did) → start_step s l t ≡ did d → GoodAll s 0 d.table
unfolding start_step
start_good s l t d e =
    lent_case (λ o. o ≡ did d → GoodAll s 0 d.table) s l _ (λ n q. absurd (let z : ◌≡◌ {A = ℕ} 0 1 = cc in omega arith))
    (λ q. subst (λ (o : Outcome). GoodAll s 0 (table_of t o)) q (renewed-good s 0 t)) e

-- AN ACCEPTED START leaves a fresh table, over the rooms that were lent.
pub renewed-fresh : (t : Table) → renewed t ≡ fresh (map (λ (h : Held). h.rooms) t)
renewed-fresh [] = refl
renewed-fresh (h ∷ t) = rw (renewed-fresh t)

pub start_fresh : (s : List ℕ) (l : Lent) (t : Table) (d : Did) → start_step s l t ≡ did d → d.table ≡ fresh (map (λ (h : Held). h.rooms) t)
unfolding start_step
start_fresh s l t d e =
    lent_case (λ o. o ≡ did d → d.table ≡ fresh (map (λ (h : Held). h.rooms) t)) s l _
    (λ n q. absurd (let z : ◌≡◌ {A = ℕ} 0 1 = cc in omega arith))
    (λ q. subst (λ (o : Outcome). table_of t o ≡ fresh (map (λ (h : Held). h.rooms) t)) q (renewed-fresh t)) e

-- A FRESH TABLE keeps rule 4, and so does the table that a history from it leaves: refusal 4 never meets a history.
pub fresh-good : (s : List ℕ) (i : ℕ) (rooms : List (List (List ℕ))) → GoodAll s i (fresh rooms)
fresh-good s i [] = tt
fresh-good s i (r ∷ rooms) = (new_good (slot_sheet s i), fresh-good s (suc i) rooms)

pub run-good : (s : List ℕ) (t : Table) (ms : List Made) → GoodAll s 0 t → GoodAll s 0 (run s t ms)
unfolding run
run-good s t [] k = k
run-good s t (m ∷ ms) k = run-good s (table_of t (step_of s t m)) ms (step_keeps s m.lent t m.call k)
