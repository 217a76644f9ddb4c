-- The meters over histories: they are what the day's notes give, and the meter equation holds.
-- Assumes nothing.
use Prim.Native.Nat.{ℕ, zero, suc, ◌+◌, ◌≤◌, ◌<◌}
use mathlib.Core.Path.{◌≡◌, refl, sym, ap, subst, ◌∙◌}
use mathlib.Core.List.{List, [], ◌∷◌}
use native.Mathlib.Nat.{add-zero, zero-add, add_assoc}
use native.Mathlib.Omega.{arith}
use lib.Dec.{ltb}
use lib.ListN.{length, replicate}
use borrow.Author.Tests.{ltb-true, ltb-false}
use Rattle.kinds.specs.declared.Row.{Row}
use Rattle.sheet.specs.Sheet.{farm_count}
use Rattle.model.specs.FarmSheet.{FarmSheet, slot_sheet}
use Rattle.model.specs.Row.{free_row}
use Rattle.model.specs.Farm.{seat_count, new_farm, wrap}
use Rattle.model.specs.Move.{Held, Move, tick_move}
use Rattle.model.specs.Rule.{Good}
use Rattle.model.specs.Table.{Table, no_held, slot, held_by, slot_tick, table_of}
use Rattle.model.specs.History.{Made, fresh, step_of, run}
use Rattle.model.specs.Meter.{notes_of, said_by, Log, no_log, noted_by, log_from, finished_up_to, total, taken_by, taken_of, finished_of, lost_of, log_of, hands, Differs, Balanced, MetersAre}
use Rattle.model.proofs.Neighbour.{fresh-length}
use Rattle.model.proofs.Rows.{row_free}
use Rattle.model.proofs.Cases.{pick_case, split}
use Rattle.model.proofs.MeterSlot.{step-slot, step-length}
use Rattle.model.proofs.MeterLog.{Tied, Logged}
use Rattle.model.proofs.MeterSums.{exact}
use Rattle.model.proofs.MeterNone.{slot-none, run_length, none_sum, none_sums}
use Rattle.model.proofs.MeterTable.{step_comes}
use Rattle.model.proofs.MeterEven.{move_differs, tick_differs}

-- ---- the difference over a history

tick-slot : (d : ℕ) (s : List ℕ) (g : ℕ) (h : Held) → Good (slot_sheet s g) h.farm → Differs d h.farm
    → Differs d (held_by h (slot_tick s g h)).farm
unfolding tick_move
tick-slot d s g h good e =
    pick_case (λ (m : Move). Differs d (held_by h m).farm) (ltb g (farm_count s)) _ _ (λ _. tick_differs d (slot_sheet s g) h.farm good e) (λ _. e)

-- Every call on a table keeps the difference of every farm that keeps rule 4, whatever the call and whatever the farm's meters are.
pub step_differs : (d : ℕ) (s : List ℕ) (t : Table) (m : Made) (g : ℕ) → Good (slot_sheet s g) (slot t g).farm → Differs d (slot t g).farm
    → Differs d (slot (table_of t (step_of s t m)) g).farm
step_differs d s t m g good e =
    step-slot (λ (h : Held). Differs d h.farm) s g t e (λ c. move_differs d (slot_sheet s g) (slot t g) c good e)
    (tick-slot d s g (slot t g) good e) m

run_differs : (d : ℕ) (s : List ℕ) (g : ℕ) (t : Table) (ms : List Made) → ((ns : List Made) → Good (slot_sheet s g) (slot (run s t ns) g).farm)
    → Differs d (slot t g).farm → Differs d (slot (run s t ms) g).farm
unfolding run
run_differs d s g t [] good e = e
run_differs d s g t (m ∷ ms) good e =
    run_differs d s g (table_of t (step_of s t m)) ms (λ ns. good (m ∷ ns)) (step_differs d s t m g (good []) e)

-- ---- a fresh table

fresh-slot : (rooms : List (List (List ℕ))) (g : ℕ) → (slot (fresh rooms) g).farm ≡ new_farm
fresh-slot [] g = refl
fresh-slot (r ∷ rooms) zero = refl
fresh-slot (r ∷ rooms) (suc g) = fresh-slot rooms g

free_hands : (n : ℕ) → hands (replicate n free_row) ≡ 0
unfolding hands
free_hands zero = refl
free_hands (suc n) = omega (arith, free_hands n)

new_balanced : Differs 0 new_farm
unfolding new_farm
new_balanced = ap (λ (n : ℕ). wrap (0 + (0 + n))) (sym (free_hands seat_count))

-- ---- the logs over a history

run_logged : (s : List ℕ) (g : ℕ) → g < farm_count s → (t : Table) → g < length t → (ms : List Made)
    → ((ns : List Made) (f : ℕ) → f < farm_count s → Good (slot_sheet s f) (slot (run s t ns) f).farm)
    → (T : ℕ) (L : ℕ → Log) → Logged (slot_sheet s g) T L (slot t g).farm
    → Logged (slot_sheet s g) (T + taken_of (slot_sheet s g) (notes_of s t ms)) (λ i. log_from ((slot_sheet s g).first + i) (L i) (notes_of s t ms))
    (slot (run s t ms) g).farm
unfolding run notes_of log_from taken_of
run_logged s g h t l [] good T L x = subst (λ (k : ℕ). Logged (slot_sheet s g) k (λ i. L i) (slot t g).farm) (sym (add-zero T)) x
run_logged s g h t l (m ∷ ms) good T L x =
    subst
    (λ (k : ℕ). Logged (slot_sheet s g) k
    (λ i. log_from ((slot_sheet s g).first + i) (noted_by ((slot_sheet s g).first + i) m.call (said_by (step_of s t m)) (L i))
    (notes_of s (table_of t (step_of s t m)) ms))
    (slot (run s (table_of t (step_of s t m)) ms) g).farm)
    (add_assoc T (taken_by (slot_sheet s g) m.call (said_by (step_of s t m))) (taken_of (slot_sheet s g) (notes_of s (table_of t (step_of s t m)) ms)))
    (run_logged s g h (table_of t (step_of s t m)) (omega (arith, step-length s t m)) ms (λ ns. good (m ∷ ns))
    (T + taken_by (slot_sheet s g) m.call (said_by (step_of s t m)))
    (λ i. noted_by ((slot_sheet s g).first + i) m.call (said_by (step_of s t m)) (L i))
    (step_comes s g h t l (good []) T L x m))

new_logged : (own : FarmSheet) → Logged own 0 (λ i. no_log) new_farm
unfolding new_farm finished_up_to total
new_logged own =
    record {
      counted =
          record {
            taken = refl;
            finished = ap wrap (sym (none_sum own.rows));
            lost = ap wrap (sym (none_sum own.rows));
            each = sym (none_sum own.rows);
          };
      tied = λ i h. subst (λ (r : Row). Tied r no_log) (sym (row_free seat_count i)) refl;
    }

-- THE METER EQUATION: "taken equals finished plus lost plus the bytes in hand on open rows, modulo 2^32", after every history from a
-- fresh table under one sheet, for every farm.
module _ (s : List ℕ) (rooms : List (List (List ℕ)))
    (good : (ms : List Made) (g : ℕ) → g < farm_count s → Good (slot_sheet s g) (slot (run s (fresh rooms) ms) g).farm) where
  pub balanced : (ms : List Made) (g : ℕ) → g < farm_count s → Balanced (slot (run s (fresh rooms) ms) g).farm
  balanced ms g h =
      ap wrap (sym (add-zero _)) ∙
      run_differs 0 s g (fresh rooms) ms (λ ns. good ns g h) (subst (Differs 0) (sym (fresh-slot rooms g)) new_balanced)

  module _ (ms : List Made) (g : ℕ) (h : g < farm_count s) where
    history_logged : g < length rooms → Logged (slot_sheet s g) (0 + taken_of (slot_sheet s g) (notes_of s (fresh rooms) ms))
        (λ i. log_of ((slot_sheet s g).first + i) (notes_of s (fresh rooms) ms)) (slot (run s (fresh rooms) ms) g).farm
    history_logged l =
        run_logged s g h (fresh rooms) (omega (arith, fresh-length rooms)) ms (λ ns f k. good ns f k) 0 (λ i. no_log)
        (subst (Logged (slot_sheet s g) 0 (λ i. no_log)) (sym (fresh-slot rooms g)) (new_logged (slot_sheet s g)))

    -- a farm that the table has no slot for
    no_farm_lem : length rooms ≤ g → slot (run s (fresh rooms) ms) g ≡ no_held
    no_farm_lem l = slot-none (run s (fresh rooms) ms) g (omega (arith, run_length s (fresh rooms) ms, fresh-length rooms))

    no_sums : length rooms ≤ g → (taken_of (slot_sheet s g) (notes_of s (fresh rooms) ms) ≡ 0) ×
        (finished_of (slot_sheet s g) (notes_of s (fresh rooms) ms) ≡ 0) × (lost_of (slot_sheet s g) (notes_of s (fresh rooms) ms) ≡ 0)
    no_sums l = none_sums s g h (fresh rooms) (omega (arith, fresh-length rooms)) ms

    no_meters : length rooms ≤ g → MetersAre (slot_sheet s g) (notes_of s (fresh rooms) ms) (slot (run s (fresh rooms) ms) g).farm.meters
    unfolding new_farm
    no_meters l =
        let z = no_sums l in
        rw (no_farm_lem l) (record { taken = ap wrap (sym z.0); finished = ap wrap (sym z.1); lost = ap wrap (sym z.2) })

    no_hands : length rooms ≤ g → hands (slot (run s (fresh rooms) ms) g).farm.rows ≡ 0
    unfolding new_farm
    no_hands l = rw (no_farm_lem l) (free_hands seat_count)

    -- THE METERS ARE WHAT THE HISTORY SAYS: after every history each farm's three meters are, wrapped, the bytes that its bytes calls
    -- took; the bytes of finished messages in all that was taken from its connections, each cut by the header rules alone; and what was
    -- left over of each connection when it ended.
    pub meters_are : MetersAre (slot_sheet s g) (notes_of s (fresh rooms) ms) (slot (run s (fresh rooms) ms) g).farm.meters
    meters_are =
        split (ltb g (length rooms))
        (λ t. let x = history_logged (ltb-true g (length rooms) t) in
        record {
          taken = x.counted.taken ∙ ap wrap (zero-add (taken_of (slot_sheet s g) (notes_of s (fresh rooms) ms)));
          finished = x.counted.finished;
          lost = x.counted.lost;
        })
        (λ t. no_meters (ltb-false g (length rooms) t))

    -- THE SAME WITHOUT WRAPPING: the three numbers that a history gives, and the bytes in hand on open rows, fit exactly.
    pub taken_is : taken_of (slot_sheet s g) (notes_of s (fresh rooms) ms) ≡
        finished_of (slot_sheet s g) (notes_of s (fresh rooms) ms) +
        (lost_of (slot_sheet s g) (notes_of s (fresh rooms) ms) + hands (slot (run s (fresh rooms) ms) g).farm.rows)
    taken_is =
        split (ltb g (length rooms))
        (λ t. sym (zero-add (taken_of (slot_sheet s g) (notes_of s (fresh rooms) ms))) ∙
        exact (slot_sheet s g) _ _ (slot (run s (fresh rooms) ms) g).farm (history_logged (ltb-true g (length rooms) t)) (good ms g h).within)
        (λ t. let z = no_sums (ltb-false g (length rooms) t) in omega (arith, z.0, z.1, z.2, no_hands (ltb-false g (length rooms) t)))
