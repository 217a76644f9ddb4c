-- The line of a farm that keeps the rules has room: every waiter's seat is one of the farm's, and while some seat does not wait, one more
-- can.
-- Assumes nothing.
use Prim.Native.Nat.{ℕ, zero, suc, ◌+◌, ◌≤◌, ◌<◌}
use mathlib.Core.Path.{◌≡◌, refl, sym, ap, ◌∙◌}
use mathlib.Core.Bool.{Bool, true, false}
use mathlib.Core.List.{List, [], ◌∷◌}
use mathlib.Core.Logic.{⊎_elim}
use native.Mathlib.Nat.{eq-or-lt_of_le}
use native.Mathlib.Omega.{arith}
use lib.Dec.{eqb, ltb}
use lib.ListN.{length, get_or, get_or-eq_default}
use borrow.Author.Tests.{eq-eqb, ne_eqb, ltb-true, ltb-false}
use Rattle.octets.specs.Choice.{one}
use Rattle.octets.specs.Search.{count_if}
use Rattle.kinds.specs.declared.Row.{Row}
use Rattle.model.specs.FarmSheet.{FarmSheet}
use Rattle.model.specs.Row.{free_row, row_at, is_waiting}
use Rattle.model.specs.Farm.{Farm, seat_count}
use Rattle.model.specs.Rule.{times, Good}
use Rattle.model.specs.Meter.{sum_to}
use Rattle.model.proofs.Cases.{split}

-- ---- every member is below n

-- none from n on stands in the line
abbrev Below : ℕ → List ℕ → Type 0
Below n l = (i : ℕ) → n ≤ i → times i l ≡ 0

below-first : (n x : ℕ) (l : List ℕ) → Below n (x ∷ l) → x < n
unfolding count_if
below-first n x l h =
    split (ltb x n) (λ t. ltb-true x n t)
    (λ t. let e : one (eqb x x) ≡ 1 = ap one (eq-eqb x x refl) in absurd (omega (arith, h x (ltb-false x n t))))

below_rest : (n x : ℕ) (l : List ℕ) → Below n (x ∷ l) → Below n l
unfolding count_if
below_rest n x l h i k = omega (arith, h i k)

below_each : (n : ℕ) (l : List ℕ) → 0 < n → Below n l → (k : ℕ) → get_or l k 0 < n
below_each n [] p h k = p
below_each n (x ∷ l) p h zero = below-first n x l h
below_each n (x ∷ l) p h (suc k) = below_each n l p (below_rest n x l h) k

-- ---- how many: each seat counted by itself

sum_none : (n : ℕ) → sum_to (λ i. times i []) n ≡ 0
unfolding sum_to count_if
sum_none zero = refl
sum_none (suc n) = omega (arith, sum_none n)

sum_add : (a b : ℕ → ℕ) (n : ℕ) → sum_to (λ i. a i + b i) n ≡ sum_to a n + sum_to b n
unfolding sum_to
sum_add a b zero = refl
sum_add a b (suc n) = omega (arith, sum_add a b n)

-- past x nothing more is counted
sum_before : (x n : ℕ) → n ≤ x → sum_to (λ i. one (eqb i x)) n ≡ 0
unfolding sum_to
sum_before x zero h = refl
sum_before x (suc n) h =
    let e : one (eqb n x) ≡ 0 = ap one (ne_eqb n x (λ z. omega arith)) in omega (arith, sum_before x n (omega arith))

sum_single : (x n : ℕ) → x < n → sum_to (λ i. one (eqb i x)) n ≡ 1
unfolding sum_to
sum_single x zero h = absurd (omega arith)
sum_single x (suc n) h =
    ⊎_elim
    (λ (z : x ≡ n). let e : one (eqb n x) ≡ 1 = ap one (eq-eqb n x (sym z)) in omega (arith, sum_before x n (omega arith)))
    (λ (l : x < n). let e : one (eqb n x) ≡ 0 = ap one (ne_eqb n x (λ z. omega arith)) in omega (arith, sum_single x n l))
    (eq-or-lt_of_le (let le : x ≤ n = omega arith in le))

length_sum : (n : ℕ) (l : List ℕ) → Below n l → length l ≡ sum_to (λ i. times i l) n
unfolding count_if
length_sum n [] h = sym (sum_none n)
length_sum n (x ∷ l) h =
    let a : sum_to (λ i. one (eqb i x) + times i l) n ≡ sum_to (λ i. one (eqb i x)) n + sum_to (λ i. times i l) n =
    sum_add (λ i. one (eqb i x)) (λ i. times i l) n
    in
    omega (arith, a, sum_single x n (below-first n x l h), length_sum n l (below_rest n x l h))

sum_most : (g : ℕ → ℕ) → ((i : ℕ) → g i ≤ 1) → (n : ℕ) → sum_to g n ≤ n
unfolding sum_to
sum_most g h zero = omega arith
sum_most g h (suc n) = omega (arith, sum_most g h n, h n)

sum_fewer : (g : ℕ → ℕ) → ((i : ℕ) → g i ≤ 1) → (k : ℕ) → g k ≡ 0 → (n : ℕ) → k < n → sum_to g n < n
unfolding sum_to
sum_fewer g h k e zero l = absurd (omega arith)
sum_fewer g h k e (suc n) l =
    ⊎_elim
    (λ (z : k ≡ n). let o : g n ≡ 0 = ap g (sym z) ∙ e in omega (arith, sum_most g h n))
    (λ (m : k < n). omega (arith, sum_fewer g h k e n m, h n))
    (eq-or-lt_of_le (let le : k ≤ n = omega arith in le))

-- ---- a farm that keeps the rules

module _ {own : FarmSheet} {f : Farm} (g : Good own f) where
  -- no seat past the farm's own waits
  pub none_beyond : (i : ℕ) → seat_count ≤ i → times i f.line ≡ 0
  none_beyond i h =
      let l : length f.rows ≤ i = omega (arith, g.seats) in
      g.lined i ∙ ap (λ (r : Row). one (is_waiting r)) (get_or-eq_default f.rows free_row {n = i} l)

  once : (i : ℕ) → times i f.line ≤ 1
  once i = let e : times i f.line ≡ one (is_waiting (row_at f.rows i)) = g.lined i in omega (arith, few (is_waiting (row_at f.rows i)))
    where
      few : (b : Bool) → one b ≤ 1
      few true = omega arith
      few false = omega arith

  -- every waiter's seat is one of the farm's
  pub line-below : (k : ℕ) → get_or f.line k 0 < seat_count
  unfolding seat_count
  line-below = below_each 9 f.line (omega arith) none_beyond

  -- a seat that does not wait has its place in the line
  pub line-room : (seat : ℕ) → seat < seat_count → is_waiting (row_at f.rows seat) ≡ false → length f.line < seat_count
  line-room seat h e =
      let few : sum_to (λ i. times i f.line) seat_count < seat_count =
      sum_fewer (λ i. times i f.line) once seat (g.lined seat ∙ ap one e) seat_count h
      in
      omega (arith, length_sum seat_count f.line none_beyond, few)
