-- Laws of whose row is whose: each row of the sheet is one seat of one farm, and each seat of a farm is one row of the sheet.
-- Assumes nothing.
use Rattle.std.proofs.Common.{Option, Some, None}
use Rattle.std.specs.List.{sum_by, range_with_len}
use Rattle.std.proofs.lemmas.List.Sums.{sum_by-cons}
use mathlib.Core.Path.{◌≡◌, refl, sym, ap, ◌∙◌, subst}
use mathlib.Core.List.{List}
use mathlib.Core.Logic.{⊎_elim}
use Prim.Native.Nat.{ℕ, zero, suc, ◌+◌, ◌-◌, ◌≤◌, ◌<◌}
use native.Mathlib.Nat.{eq-or-lt_of_le, zero-add}
use native.Mathlib.Numerals.{add-one}
use native.Mathlib.Omega.{arith}
use borrow.Author.Tests.{lt-ltb, le-ltb}
use lib.ListN.{length}
use Rattle.sheet.proofs.Order.{le_or_lt}
use Rattle.kinds.specs.declared.FarmNo.{FarmNo}
use Rattle.sheet.specs.Sheet.{farm_count, farm_no, most_quota, most_rows}
use Rattle.sheet.specs.Rules.{GoodSheet}
use Rattle.sheet.specs.Rows.{rows_owned, first_row, rows_in, owner_from, owner_of}

same_seat : {f g i j : ℕ} → ◌≡◌ {A = Option (FarmNo × ℕ)} (Some (farm_no f, i)) (Some (farm_no g, j)) → (f ≡ g) × (i ≡ j)
same_seat {f} {g} {i} {j} e =
    let n : ◌≡◌ {A = FarmNo × ℕ} (farm_no f, i) (farm_no g, j) = cc in
    (ap (λ (p : FarmNo × ℕ). p.0.0) n, ap (λ (p : FarmNo × ℕ). p.1) n)

pub range-long : (a n : ℕ) → length (range_with_len a n) ≡ n
range-long a zero = refl
range-long a (suc n) = ap suc (range-long (a + 1) n)

-- "and so on": the rows of n farms, from farm a on
summed : (s : List ℕ) (a n : ℕ) → first_row s a + sum_by (rows_owned s) (range_with_len a n) ≡ first_row s (a + n)
summed s a zero = let z : a ≡ a + 0 = omega arith in omega (arith, ap (first_row s) z)
summed s a (suc n) =
    let z : a + 1 + n ≡ a + suc n = omega arith in
    omega (arith, sum_by-cons (rows_owned s) a (range_with_len (a + 1) n), ap (first_row s) (add-one a), summed s (a + 1) n, ap (first_row s) z)

pub summed_all : (s : List ℕ) (n : ℕ) → sum_by (rows_owned s) (range_with_len 0 n) ≡ first_row s n
summed_all s n = let z : 0 + n ≡ n = omega arith in omega (arith, summed s 0 n, ap (first_row s) z)

module _ (s : List ℕ) where
  pub rows_mono : (f n : ℕ) → f ≤ n → first_row s f ≤ first_row s n
  rows_mono f zero h = let e : f ≡ 0 = omega arith in subst (λ (k : ℕ). first_row s k ≤ 0) (sym e) (omega arith)
  rows_mono f (suc n) h =
      ⊎_elim
      (λ (e : f ≡ suc n). subst (λ (k : ℕ). first_row s k ≤ first_row s (suc n)) (sym e) (omega arith))
      (λ (l : f < suc n). omega (arith, rows_mono f n (omega arith)))
      (eq-or-lt_of_le h)

  -- a farm's rows are rows of the sheet
  pub rows-within : (f : ℕ) → f < farm_count s → first_row s f + rows_owned s f ≤ rows_in s
  rows-within f h = rows_mono (suc f) (farm_count s) h

  pub rows_few : GoodSheet s → rows_in s ≤ most_rows
  rows_few g = g.farms.rows_at_most

  pub first_few : (f : ℕ) → GoodSheet s → f ≤ farm_count s → first_row s f ≤ most_rows
  first_few f g h = omega (arith, rows_mono f (farm_count s) h, rows_few g)

  -- a farm has two rows at least, and nine at most
  pub owned-some : (f : ℕ) → GoodSheet s → f < farm_count s → 2 ≤ rows_owned s f
  owned-some f g h = omega (arith, (g.farms.each_farm f h).quota_at_least)

  pub owned_few : (f : ℕ) → GoodSheet s → f < farm_count s → rows_owned s f ≤ most_quota + 1
  owned_few f g h = omega (arith, (g.farms.each_farm f h).quota_at_most)

  -- ---- a step of the search for the owner

  pub owner_here : (n f r : ℕ) → r < rows_owned s f → owner_from s (suc n) f r ≡ Some (farm_no f, r)
  unfolding owner_from
  owner_here n f r h = rw (lt-ltb r (rows_owned s f) h)

  pub owner_next : (n f r : ℕ) → rows_owned s f ≤ r → owner_from s (suc n) f r ≡ owner_from s n (suc f) (r - rows_owned s f)
  unfolding owner_from
  owner_next n f r h = rw (le-ltb r (rows_owned s f) h)

  pub owner-none : (f r : ℕ) → owner_from s 0 f r ≡ None
  unfolding owner_from
  owner-none f r = refl

  -- past the first f farms
  past : (f n r : ℕ) → owner_from s (f + n) 0 (first_row s f + r) ≡ owner_from s n f r
  past zero n r = let z : 0 + n ≡ n = zero-add n in let y : 0 + r ≡ r = zero-add r in rw (z, y)
  past (suc f) n r =
      let a : suc f + n ≡ f + suc n = omega arith in
      let b : first_row s (suc f) + r ≡ first_row s f + (rows_owned s f + r) = omega arith in
      let d : rows_owned s f + r - rows_owned s f ≡ r = omega arith in
      ap (λ (k : ℕ). owner_from s k 0 (first_row s (suc f) + r)) a
      ∙ ap (owner_from s (f + suc n) 0) b
      ∙ past f (suc n) (rows_owned s f + r)
      ∙ owner_next n f (rows_owned s f + r) (omega arith)
      ∙ ap (owner_from s n (suc f)) d

  -- ---- rows and seats

  -- the row r is this seat of the farm f, of the first n farms: "Farm 0 owns rows 0 to q, farm 1 the next q+1, and so on"
  pub record IsSeat (n r f seat : ℕ) : Type 0 where
    pub farm_within : f < n
    pub seat_within : seat < rows_owned s f
    pub is_row : first_row s f + seat ≡ r

  pub record Place (n r : ℕ) : Type 0 where
    pub farm : ℕ
    pub seat : ℕ
    pub is_seat : IsSeat n r farm seat

  -- the seats of a farm are its rows, in order
  pub owner_of_seat : (f seat : ℕ) → f < farm_count s → seat < rows_owned s f → owner_of s (first_row s f + seat) ≡ Some (farm_no f, seat)
  owner_of_seat f seat h k =
      let a : farm_count s ≡ f + suc (farm_count s - suc f) = omega arith in
      ap (λ (m : ℕ). owner_from s m 0 (first_row s f + seat)) a
      ∙ past f (suc (farm_count s - suc f)) seat
      ∙ owner_here (farm_count s - suc f) f seat k

  pub seat_owner : (r f seat : ℕ) → IsSeat (farm_count s) r f seat → owner_of s r ≡ Some (farm_no f, seat)
  seat_owner r f seat p = ap (owner_of s) (sym p.is_row) ∙ owner_of_seat f seat p.farm_within p.seat_within

  -- beyond the sheet's rows there is no owner
  pub owner_beyond : (r : ℕ) → rows_in s ≤ r → owner_of s r ≡ None
  owner_beyond r h =
      let a : farm_count s ≡ farm_count s + 0 = omega arith in
      let b : r ≡ rows_in s + (r - rows_in s) = omega arith in
      ap (λ (m : ℕ). owner_from s m 0 r) a
      ∙ ap (owner_from s (farm_count s + 0) 0) b
      ∙ past (farm_count s) 0 (r - rows_in s)
      ∙ owner-none (farm_count s) (r - rows_in s)

  place_before : (n r : ℕ) → r < first_row s n → Place n r
  place_before zero r h = absurd (omega arith)
  place_before (suc n) r h =
      ⊎_elim
      (λ (l : first_row s n ≤ r).
      record { farm = n; seat = r - first_row s n; is_seat = record { farm_within = omega arith; seat_within = omega arith; is_row = omega arith } })
      (λ (l : r < first_row s n).
      let p = place_before n r l in
      let q = p.is_seat in
      record { farm = p.farm; seat = p.seat; is_seat = record { farm_within = omega arith; seat_within = q.seat_within; is_row = q.is_row } })
      (le_or_lt (first_row s n) r)

  -- each row of the sheet is a seat of a farm
  pub place_of : (r : ℕ) → r < rows_in s → Place (farm_count s) r
  place_of r h = place_before (farm_count s) r h

  -- and of one only
  pub seat_only : (r f i g j : ℕ) → IsSeat (farm_count s) r f i → IsSeat (farm_count s) r g j → (f ≡ g) × (i ≡ j)
  seat_only r f i g j p q = same_seat (sym (seat_owner r f i p) ∙ seat_owner r g j q)

  -- rows of different farms differ
  pub rows_apart : (f g i j : ℕ) → f < farm_count s → g < farm_count s → i < rows_owned s f → j < rows_owned s g → (f ≡ g → ⊥)
      → first_row s f + i ≡ first_row s g + j → ⊥
  rows_apart f g i j hf hg hi hj ne e =
      ne
      (seat_only (first_row s g + j) f i g j
      (record { farm_within = hf; seat_within = hi; is_row = e })
      (record { farm_within = hg; seat_within = hj; is_row = refl })).0

  -- ---- what an answer says

  -- None exactly where the row is not below the sheet's rows
  pub nobody_beyond : (r : ℕ) → owner_of s r ≡ None → rows_in s ≤ r
  nobody_beyond r e =
      ⊎_elim
      (λ (h : rows_in s ≤ r). h)
      (λ (h : r < rows_in s).
      let p = place_of r h in
      let q : owner_of s r ≡ Some (farm_no p.farm, p.seat) = seat_owner r p.farm p.seat p.is_seat in
      absurd (let z : ◌≡◌ {A = ℕ} 0 1 = cc in omega arith))
      (le_or_lt (rows_in s) r)

  -- a seat exactly where the row is that seat
  pub owner_seat : (r f seat : ℕ) → owner_of s r ≡ Some (farm_no f, seat) → IsSeat (farm_count s) r f seat
  owner_seat r f seat e =
      ⊎_elim
      (λ (h : rows_in s ≤ r). let b : owner_of s r ≡ None = owner_beyond r h in absurd (let z : ◌≡◌ {A = ℕ} 0 1 = cc in omega arith))
      (λ (h : r < rows_in s).
      let p = place_of r h in
      let q = same_seat (sym (seat_owner r p.farm p.seat p.is_seat) ∙ e) in
      subst (IsSeat (farm_count s) r f) q.1 (subst (λ (g : ℕ). IsSeat (farm_count s) r g p.seat) q.0 p.is_seat))
      (le_or_lt (rows_in s) r)
