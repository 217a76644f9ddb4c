-- The bytes of the table and of the rooms that the lent memory means are the lent bytes themselves.
-- Assumes nothing.
use Prim.Native.Nat.{ℕ, zero, suc, ◌+◌, ◌*◌, ◌-◌, ◌≤◌, ◌<◌}
use mathlib.Core.Path.{◌≡◌, refl, sym, ap, ap₂, ◌∙◌}
use mathlib.Core.List.{List, [], ◌++◌, map}
use mathlib.Core.Logic.{⊎_elim}
use native.Mathlib.Omega.{arith}
use lib.ListN.{length, take, drop, take-append-drop}
use lib.Seq.{take_all, length-take-le}
use Rattle.octets.specs.Parts.{part, parts, joined}
use Rattle.octets.specs.Put.{put_at}
use Rattle.octets.proofs.PartsLaws.{part_join, parts_join}
use Rattle.octets.proofs.PutLaws.{put_start}
use Rattle.octets.proofs.SearchLaws.{same_says}
use Rattle.octets.specs.Says.{Says}
use Rattle.sheet.specs.Sheet.{most_farms, farm_count}
use Rattle.sheet.specs.Rows.{first_row, rows_owned, rows_in}
use Rattle.sheet.specs.Rules.{GoodSheet}
use Rattle.sheet.proofs.Order.{le_or_lt}
use Rattle.sheet.proofs.TestLaws.{below-says}
use Rattle.sheet.proofs.RowsLaws.{rows_mono, rows_few}
use Rattle.model.specs.FarmSheet.{FarmSheet, farm_sheet, no_farm}
use Rattle.model.specs.Move.{Held}
use Rattle.model.specs.Table.{assembling_size}
use Rattle.table.specs.Layout.{block_size, table_size}
use Rattle.table.specs.Block.{farm_of, image, whole_block}
use Rattle.lent.specs.Lent.{block, whole_table, room_size, rooms_of, held_at, slots_from, lent_table, table_bytes, room_bytes}
use Rattle.lent.proofs.LentLaws.{slot-farm, slot-none}

-- ---- the table

-- each block is the bytes of the farm that it means
abbrev pub Exact : List ℕ → Type 0
Exact t = (f : ℕ) → f < most_farms → image (farm_of (block t f)) ≡ block t f

pub block-says : (b : List ℕ) → Says (whole_block b) (image (farm_of b) ≡ b)
unfolding whole_block
block-says b = same_says (image (farm_of b)) b

pub whole_exact : (t : List ℕ) → Says (whole_table t) (Exact t)
unfolding whole_table
whole_exact t = below-says (λ f. whole_block (block t f)) (λ f. image (farm_of (block t f)) ≡ block t f) (λ f. block-says (block t f)) most_farms

module _ (s t m : List ℕ) where
  blocks_are : (k n : ℕ) → ((f : ℕ) → k ≤ f → f < k + n → image (farm_of (block t f)) ≡ block t f)
      → joined (map (λ (h : Held). image h.farm) (slots_from (held_at s t m) k n)) ≡ joined (parts block_size (k * block_size) n t)
  unfolding joined parts held_at
  blocks_are k zero e = refl
  blocks_are k (suc n) e =
      let z : suc k * block_size ≡ k * block_size + block_size = omega arith in
      ap₂ (λ (x y : List ℕ). x ++ y) (e k (omega arith) (omega arith))
      (blocks_are (suc k) n (λ f a b. e f (omega arith) (omega arith)) ∙ ap (λ (a : ℕ). joined (parts block_size a n t)) z)

  pub table_exact : Exact t → length t ≡ table_size → table_bytes (lent_table s t m) ≡ t
  unfolding table_bytes lent_table
  table_exact e long =
      blocks_are 0 most_farms (λ f a b. e f (omega (arith, b)))
      ∙ parts_join block_size 0 most_farms t
      ∙ take_all table_size t (omega (arith, long))

-- ---- the rooms

module _ (s t m : List ℕ) where
  abbrev rooms_from : ℕ → ℕ → List ℕ
  rooms_from k n = joined (map (λ (h : Held). joined h.rooms) (slots_from (held_at s t m) k n))

  no_rooms : (k n : ℕ) → farm_count s ≤ k → rooms_from k n ≡ []
  unfolding joined parts held_at no_farm
  no_rooms k zero h = refl
  no_rooms k (suc n) h = ap₂ (λ (x : FarmSheet) (y : List ℕ). joined (rooms_of x m) ++ y) (slot-none s k h) (no_rooms (suc k) n (omega arith))

  farm-rooms : (f : ℕ) → f < farm_count s → joined (held_at s t m f).rooms ≡ part m (first_row s f * room_size) (rows_owned s f * room_size)
  unfolding held_at farm_sheet
  farm-rooms f h = ap (λ (x : FarmSheet). joined (rooms_of x m)) (slot-farm s f h) ∙ parts_join room_size (first_row s f * room_size) (rows_owned s f) m

  rooms-from : (k n : ℕ) → k ≤ farm_count s → farm_count s ≤ k + n
      → rooms_from k n ≡ part m (first_row s k * room_size) ((rows_in s - first_row s k) * room_size)
  unfolding joined
  rooms-from k zero a b =
      let e : k ≡ farm_count s = omega arith in
      let z : (rows_in s - first_row s k) * room_size ≡ 0 = omega (arith, ap (first_row s) e) in
      sym (ap (λ (x : ℕ). part m (first_row s k * room_size) x) z)
  rooms-from k (suc n) a b =
      ⊎_elim
      (λ (l : farm_count s ≤ k).
      let e : k ≡ farm_count s = omega arith in
      let z : (rows_in s - first_row s k) * room_size ≡ 0 = omega (arith, ap (first_row s) e) in
      no_rooms k (suc n) l ∙ sym (ap (λ (x : ℕ). part m (first_row s k * room_size) x) z))
      (λ (l : k < farm_count s).
      let i : first_row s (suc k) ≤ rows_in s = rows_mono s (suc k) (farm_count s) l in
      let p : first_row s (suc k) * room_size ≡ first_row s k * room_size + rows_owned s k * room_size = omega arith in
      let q : rows_owned s k * room_size + (rows_in s - first_row s (suc k)) * room_size ≡ (rows_in s - first_row s k) * room_size = omega (arith, i) in
      ap₂ (λ (x y : List ℕ). x ++ y) (farm-rooms k l)
      (rooms-from (suc k) n l (omega arith) ∙ ap (λ (x : ℕ). part m x ((rows_in s - first_row s (suc k)) * room_size)) p)
      ∙ part_join m (first_row s k * room_size) (rows_owned s k * room_size) ((rows_in s - first_row s (suc k)) * room_size)
      ∙ ap (part m (first_row s k * room_size)) q)
      (le_or_lt (farm_count s) k)

  pub rooms_are : GoodSheet s → room_bytes (lent_table s t m) ≡ take (rows_in s * room_size) m
  unfolding room_bytes lent_table
  rooms_are good =
      let z : (rows_in s - 0) * room_size ≡ rows_in s * room_size = omega arith in
      rooms-from 0 most_farms (omega arith) (omega (arith, good.head.farms_at_most)) ∙ ap (λ (x : ℕ). take x m) z

-- a buffer whose bytes behind the sheet's rows stayed
pub rooms_exact : (s t m after : List ℕ) → GoodSheet s → length after ≡ assembling_size → drop (rows_in s * room_size) after ≡ drop (rows_in s * room_size) m
    → after ≡ put_at m 0 (room_bytes (lent_table s t after))
unfolding assembling_size
rooms_exact s t m after good long past =
    let n : ℕ = rows_in s * room_size in
    let r : room_bytes (lent_table s t after) ≡ take (rows_in s * room_size) after = rooms_are s t after good in
    let l : length (take (rows_in s * room_size) after) ≡ rows_in s * room_size = length-take-le (rows_in s * room_size) after (omega (arith, long, rows_few s good)) in
    sym
    (put_start m (room_bytes (lent_table s t after))
    ∙ ap (λ (x : List ℕ). x ++ drop (length x) m) r
    ∙ ap (λ (k : ℕ). take n after ++ drop k m) l
    ∙ ap (λ (x : List ℕ). take n after ++ x) (sym past)
    ∙ take-append-drop n after)
