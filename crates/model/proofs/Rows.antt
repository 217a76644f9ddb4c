-- Laws of a farm's rows: a row after a store, and how a store changes a count.
-- Assumes nothing.
use Prim.Native.Nat.{ℕ, zero, suc, ◌+◌, ◌≤◌, ◌<◌}
use mathlib.Core.Path.{◌≡◌, refl, sym, ap}
use mathlib.Core.Bool.{Bool, true, false, false≢true}
use mathlib.Core.List.{List, [], ◌∷◌, ◌++◌, map}
use native.Mathlib.Nat.{not-suc-le-zero}
use native.Mathlib.Omega.{arith}
use lib.Dec.{eqb}
use lib.ListN.{set, length, replicate}
use borrow.Author.Tests.{eqb-true}
use Rattle.octets.specs.Choice.{one}
use Rattle.octets.specs.Search.{count_if}
use Rattle.kinds.specs.declared.Row.{Row}
use Rattle.kinds.specs.declared.RowState.{RowState}
use Rattle.kinds.specs.declared.RowState.TheVariants.{Free, Fresh, Waiting, Active}
use Rattle.model.specs.Row.{free_row, row_at, is_open_state, is_open, older_state}
use Rattle.model.specs.Line.{without}
use Rattle.model.specs.Rule.{times}
use Rattle.model.proofs.Cases.{split}

-- ---- a row after a store

-- whatever holds of the new row at its seat, and of every other row as it was
pub row_put : (rows : List Row) (r k : ℕ) (x : Row) → r < length rows → (P : Row → Type 0) → (k ≡ r → P x) → ((k ≡ r → ⊥) → P (row_at rows k))
    → P (row_at (set rows r x) k)
row_put [] r k x h P f g = absurd (not-suc-le-zero h)
row_put (y ∷ ys) zero zero x h P f g = f refl
row_put (y ∷ ys) zero (suc k) x h P f g = g (λ e. omega arith)
row_put (y ∷ ys) (suc r) zero x h P f g = g (λ e. omega arith)
row_put (y ∷ ys) (suc r) (suc k) x h P f g = row_put ys r k x (omega arith) P (λ e. f (ap suc e)) (λ n. g (λ e. n (omega arith)))

-- the same where the seat may be none of the rows: then nothing is stored
pub row-set : (rows : List Row) (r k : ℕ) (x : Row) → (P : Row → Type 0) → (k ≡ r → r < length rows → P x) → P (row_at rows k) → P (row_at (set rows r x) k)
row-set [] r k x P f g = g
row-set (y ∷ ys) zero zero x P f g = f refl (omega arith)
row-set (y ∷ ys) zero (suc k) x P f g = g
row-set (y ∷ ys) (suc r) zero x P f g = g
row-set (y ∷ ys) (suc r) (suc k) x P f g = row-set ys r k x P (λ e h. f (ap suc e) (omega arith)) g

pub row_same : (rows : List Row) (r : ℕ) (x : Row) → r < length rows → row_at (set rows r x) r ≡ x
row_same rows r x h = row_put rows r r x h (λ y. y ≡ x) (λ e. refl) (λ n. absurd (n refl))

pub row_other : (rows : List Row) (r k : ℕ) (x : Row) → (k ≡ r → ⊥) → row_at (set rows r x) k ≡ row_at rows k
row_other rows r k x n = row-set rows r k x (λ y. y ≡ row_at rows k) (λ e h. absurd (n e)) refl

pub row-map : (f : Row → Row) → f free_row ≡ free_row → (rows : List Row) (k : ℕ) → row_at (map f rows) k ≡ f (row_at rows k)
row-map f e [] k = sym e
row-map f e (x ∷ xs) zero = refl
row-map f e (x ∷ xs) (suc k) = row-map f e xs k

pub open_in : (rows : List Row) (r : ℕ) → is_open (row_at rows r) ≡ true → r < length rows
open_in [] r e = absurd (false≢true e)
open_in (x ∷ xs) zero e = omega arith
open_in (x ∷ xs) (suc r) e = omega (arith, open_in xs r e)

-- ---- counts

pub count_set : (p : Row → Bool) (rows : List Row) (r : ℕ) (x : Row) → r < length rows
    → count_if p (set rows r x) + one (p (row_at rows r)) ≡ count_if p rows + one (p x)
unfolding count_if
count_set p [] r x h = absurd (not-suc-le-zero h)
count_set p (y ∷ ys) zero x h = omega arith
count_set p (y ∷ ys) (suc r) x h = omega (arith, count_set p ys r x (omega arith))

-- a row that is freed no longer passes a test that a free row fails
pub count_free : (p : Row → Bool) → p free_row ≡ false → (rows : List Row) (r : ℕ)
    → count_if p (set rows r free_row) + one (p (row_at rows r)) ≡ count_if p rows
unfolding count_if
count_free p e [] r = rw e refl
count_free p e (y ∷ ys) zero = let q : one (p free_row) ≡ 0 = ap one e in omega arith
count_free p e (y ∷ ys) (suc r) = omega (arith, count_free p e ys r)

pub count_same : (p : Row → Bool) (rows : List Row) (r : ℕ) (x : Row) → p x ≡ p (row_at rows r) → count_if p (set rows r x) ≡ count_if p rows
unfolding count_if
count_same p [] r x e = refl
count_same p (y ∷ ys) zero x e = rw e refl
count_same p (y ∷ ys) (suc r) x e = omega (arith, count_same p ys r x e)

pub count_map : (p : Row → Bool) (f : Row → Row) → ((x : Row) → p (f x) ≡ p x) → (rows : List Row) → count_if p (map f rows) ≡ count_if p rows
unfolding count_if
count_map p f e [] = refl
count_map p f e (x ∷ xs) = let q : one (p (f x)) ≡ one (p x) = ap one (e x) in omega (arith, count_map p f e xs)

-- where a row passes, the count is not 0
pub count-some : (p : Row → Bool) → p free_row ≡ false → (rows : List Row) (r : ℕ) → p (row_at rows r) ≡ true → 1 ≤ count_if p rows
count-some p e rows r t = let q : one (p (row_at rows r)) ≡ 1 = ap one t in omega (arith, count_free p e rows r)

-- ---- how often a seat stands in a line

pub times_append : (i : ℕ) (l m : List ℕ) → times i (l ++ m) ≡ times i l + times i m
unfolding count_if
times_append i [] m = omega arith
times_append i (x ∷ l) m = omega (arith, times_append i l m)

pub times_gone : (x : ℕ) (l : List ℕ) → times x (without x l) ≡ 0
unfolding count_if
times_gone x [] = refl
times_gone x (y ∷ l) =
    split (eqb x y) (λ e. rw e (times_gone x l)) (λ e. rw e (let t : one (eqb x y) ≡ 0 = ap one e in omega (arith, times_gone x l)))

pub times-kept : (i x : ℕ) → eqb i x ≡ false → (l : List ℕ) → times i (without x l) ≡ times i l
unfolding count_if
times-kept i x n [] = refl
times-kept i x n (y ∷ l) =
    split (eqb x y)
    (λ e. let q : eqb i y ≡ false = rw (eqb-true x y e) at n in rw e (let t : one (eqb i y) ≡ 0 = ap one q in omega (arith, times-kept i x n l)))
    (λ e. rw e (ap (one (eqb i y) +◌) (times-kept i x n l)))

-- ---- rows of a new farm

pub row_free : (n i : ℕ) → row_at (replicate n free_row) i ≡ free_row
row_free zero i = refl
row_free (suc n) zero = refl
row_free (suc n) (suc i) = row_free n i

-- a freed row is free, whether there was one or not
pub row-freed : (rows : List Row) (i : ℕ) → row_at (set rows i free_row) i ≡ free_row
row-freed [] i = refl
row-freed (x ∷ rows) zero = refl
row-freed (x ∷ rows) (suc i) = row-freed rows i

-- ---- a row a tick later

pub older_open : (s : RowState) → is_open_state (older_state s) ≡ is_open_state s
older_open Free = refl
older_open (Fresh c) = refl
older_open (Waiting q) = refl
older_open (Active a c) = refl
