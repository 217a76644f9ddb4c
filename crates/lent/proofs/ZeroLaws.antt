-- A table of zero bytes is a new one: "A new table holds all rows free and all meters 0."
-- Assumes nothing.
use Prim.Native.Nat.{ℕ, zero, suc, ◌+◌, ◌*◌, ◌≤◌, ◌<◌}
use mathlib.Core.Path.{◌≡◌, refl, sym, ap, ap₂, ◌∙◌}
use mathlib.Core.Bool.{true}
use mathlib.Core.List.{List, [], ◌∷◌, ◌++◌}
use native.Mathlib.Omega.{arith}
use lib.ListN.{length, take, set, replicate, length-set, length-replicate, replicate-append-replicate, get_or-replicate}
use lib.Seq.{take-suc-set, take_all, ext_get_or}
use Rattle.octets.proofs.PartsLaws.{length_part, get_or-part}
use Rattle.sheet.specs.Sheet.{most_farms}
use Rattle.model.specs.Farm.{Farm, new_farm}
use Rattle.model.specs.Table.{Table, renewed}
use Rattle.table.specs.Layout.{block_size, table_size}
use Rattle.table.specs.Block.{farm_of, image}
use Rattle.table.proofs.BlockLaws.{exact, zero_new}
use Rattle.lent.specs.Lent.{block, whole_table, held_at, slots_from, lent_table}
use Rattle.lent.proofs.BytesLaws.{Exact, whole_exact}

zero-block : (f : ℕ) → f < most_farms → block (replicate table_size 0) f ≡ replicate block_size 0
zero-block f h =
    let l : length {A = ℕ} (replicate table_size 0) ≡ table_size = length-replicate {A = ℕ} table_size 0 in
    let n : length (block (replicate table_size 0) f) ≡ block_size = length_part (replicate table_size 0) (f * block_size) block_size (omega (arith, l, h)) in
    ext_get_or 0 (block (replicate table_size 0) f) (replicate block_size 0) (n ∙ sym (length-replicate {A = ℕ} block_size 0))
    (λ i k.
    let j : i < block_size = omega (arith, n, k) in
    get_or-part (replicate table_size 0) (f * block_size) block_size i j
    ∙ get_or-replicate table_size (f * block_size + i) 0 0 (omega (arith, h, j))
    ∙ sym (get_or-replicate block_size i 0 0 j))

zero-farm : (f : ℕ) → f < most_farms → farm_of (block (replicate table_size 0) f) ≡ new_farm
zero-farm f h = ap farm_of (zero-block f h) ∙ zero_new.is

pub zero-whole : whole_table (replicate table_size 0) ≡ true
zero-whole = (whole_exact (replicate table_size 0)).all each
  where
    each : Exact (replicate table_size 0)
    each f h = ap (λ (x : List ℕ). image (farm_of x)) (zero-block f h) ∙ exact (replicate block_size 0) zero_new.whole ∙ sym (zero-block f h)

module _ (s t m : List ℕ) where
  renewed-from : (k n : ℕ) → k + n ≤ most_farms → slots_from (held_at s (replicate table_size 0) m) k n ≡ renewed (slots_from (held_at s t m) k n)
  unfolding held_at
  renewed-from k zero h = refl
  renewed-from k (suc n) h =
      ap₂ (λ (x : Farm) (l : Table). record { farm = x; rooms = (held_at s t m k).rooms } ∷ l) (zero-farm k (omega arith)) (renewed-from (suc k) n (omega arith))

  pub zero-means : lent_table s (replicate table_size 0) m ≡ renewed (lent_table s t m)
  unfolding lent_table
  zero-means = renewed-from 0 most_farms (omega arith)
