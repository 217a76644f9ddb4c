-- The three sums over a farm's logs, and the bytes in hand: exact, before any wrapping.
-- Assumes nothing.
use Prim.Native.Nat.{ℕ, zero, suc, ◌+◌, ◌≤◌}
use mathlib.Core.Path.{◌≡◌, refl, sym, ap, ◌∙◌}
use mathlib.Core.Bool.{false, false≢true}
use mathlib.Core.List.{List, [], ◌∷◌}
use native.Mathlib.Nat.{add_comm, add-zero, add-suc}
use native.Mathlib.Omega.{arith}
use lib.ListN.{length}
use Rattle.kinds.specs.declared.RowState.{RowState}
use Rattle.kinds.specs.declared.RowState.TheVariants.{Free, Fresh, Waiting, Active}
use Rattle.kinds.specs.declared.Place.{Place}
use Rattle.kinds.specs.declared.Row.{Row}
use Rattle.model.specs.FarmSheet.{FarmSheet}
use Rattle.model.specs.Row.{row_at, in_hand_by, in_hand, is_open_state, is_open}
use Rattle.model.specs.Farm.{Farm}
use Rattle.model.specs.Meter.{Log, total, sum_to, finished_in, unfinished_in, finished_on, lost_on, hands}
use Rattle.model.proofs.MeterCut.{finished_most}
use Rattle.model.proofs.MeterLog.{all_on, sum_same, Tied, tied_hand, Logged}

-- ---- sums

sum_add : (a b c : ℕ → ℕ) (n : ℕ) → sum_to (λ i. a i + (b i + c i)) n ≡ sum_to a n + (sum_to b n + sum_to c n)
unfolding sum_to
sum_add a b c zero = refl
sum_add a b c (suc n) = omega (arith, sum_add a b c n)

sum_front : (f : ℕ → ℕ) (n : ℕ) → sum_to f (suc n) ≡ f 0 + sum_to (λ i. f (suc i)) n
unfolding sum_to
sum_front f zero = omega arith
sum_front f (suc n) = omega (arith, sum_front f n)

sum_tail : (f : ℕ → ℕ) (n : ℕ) → ((i : ℕ) → n ≤ i → f i ≡ 0) → (k : ℕ) → sum_to f (n + k) ≡ sum_to f n
unfolding sum_to
sum_tail f n h zero = ap (sum_to f) (add-zero n)
sum_tail f n h (suc k) = ap (sum_to f) (add-suc n k) ∙ omega (arith, sum_tail f n h k, h (n + k) (omega arith))

-- two bounds past which nothing is left
sum_ends : (f : ℕ → ℕ) (n m : ℕ) → ((i : ℕ) → n ≤ i → f i ≡ 0) → ((i : ℕ) → m ≤ i → f i ≡ 0) → sum_to f n ≡ sum_to f m
sum_ends f n m h k = sym (sum_tail f n h m) ∙ ap (sum_to f) (add_comm n m) ∙ sum_tail f m k n

-- ---- the bytes in hand

shut_hand : (s : RowState) (p : Place) → is_open_state s ≡ false → in_hand_by s p ≡ 0
shut_hand Free p e = refl
shut_hand (Fresh c) p e = absurd (false≢true (sym e))
shut_hand (Waiting q) p e = absurd (false≢true (sym e))
shut_hand (Active a c) p e = absurd (false≢true (sym e))

past_rows : (rows : List Row) (i : ℕ) → length rows ≤ i → in_hand (row_at rows i) ≡ 0
past_rows [] i h = refl
past_rows (x ∷ rows) zero h = absurd (omega arith)
past_rows (x ∷ rows) (suc i) h = past_rows rows i (omega arith)

hands-all : (rows : List Row) → hands rows ≡ sum_to (λ i. in_hand (row_at rows i)) (length rows)
unfolding hands sum_to
hands-all [] = refl
hands-all (x ∷ rows) = ap (λ (n : ℕ). in_hand x + n) (hands-all rows) ∙ sym (sum_front (λ i. in_hand (row_at (x ∷ rows) i)) (length rows))

-- where no row beyond the first n is open, those of the first n are all
hands_own : (rows : List Row) (n : ℕ) → ((i : ℕ) → n ≤ i → is_open (row_at rows i) ≡ false) → hands rows ≡ sum_to (λ i. in_hand (row_at rows i)) n
hands_own rows n w =
    hands-all rows ∙
    sum_ends (λ i. in_hand (row_at rows i)) (length rows) n (past_rows rows) (λ i h. shut_hand (row_at rows i).state (row_at rows i).place (w i h))

-- ---- one log

ended-all : (ls : List (List ℕ)) → total length ls ≡ total finished_in ls + total unfinished_in ls
unfolding total
ended-all [] = refl
ended-all (l ∷ ls) = omega (arith, ended-all ls, finished_most (length l) l)

log_all : (r : Row) (l : Log) → Tied r l → all_on l ≡ finished_on l + (lost_on l + in_hand r)
log_all r l t = omega (arith, ended-all l.ended, tied_hand r.state r.place r.head l.now t)

-- the bytes taken are the bytes finished, the bytes lost and the bytes in hand
pub exact : (own : FarmSheet) (T : ℕ) (L : ℕ → Log) (f : Farm) → Logged own T L f → ((i : ℕ) → own.rows ≤ i → is_open (row_at f.rows i) ≡ false)
    → T ≡ sum_to (λ i. finished_on (L i)) own.rows + (sum_to (λ i. lost_on (L i)) own.rows + hands f.rows)
exact own T L f x w =
    x.counted.each ∙
    sum_same (λ i. finished_on (L i) + (lost_on (L i) + in_hand (row_at f.rows i))) (λ i. all_on (L i)) own.rows
    (λ i h. log_all (row_at f.rows i) (L i) (x.tied i h)) ∙
    sum_add (λ i. finished_on (L i)) (λ i. lost_on (L i)) (λ i. in_hand (row_at f.rows i)) own.rows ∙
    ap (λ (n : ℕ). sum_to (λ i. finished_on (L i)) own.rows + (sum_to (λ i. lost_on (L i)) own.rows + n)) (sym (hands_own f.rows own.rows w))
