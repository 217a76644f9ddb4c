-- What a change of one block, or of one room, is to the table that the lent memory means.
-- Assumes nothing.
use Prim.Native.Nat.{ℕ, suc, ◌+◌, ◌*◌, ◌≤◌, ◌<◌}
use mathlib.Core.Path.{◌≡◌, sym, ap, ◌∙◌}
use mathlib.Core.List.{List}
use mathlib.Core.Logic.{⊎_elim}
use native.Mathlib.Omega.{arith}
use lib.ListN.{length, set}
use borrow.Author.Tests.{lt-ltb, le-ltb}
use Rattle.octets.specs.Choice.{pick}
use Rattle.octets.specs.Parts.{part, parts}
use Rattle.octets.specs.Put.{put_at}
use Rattle.octets.proofs.PartsLaws.{part_same, part_before, part-after, parts_same, parts_before, parts-after}
use Rattle.sheet.specs.Sheet.{most_farms, farm_count}
use Rattle.sheet.specs.Rows.{first_row, rows_owned}
use Rattle.sheet.specs.Rules.{GoodSheet}
use Rattle.sheet.proofs.Order.{le_or_lt}
use Rattle.sheet.proofs.RowsLaws.{rows_mono, rows_few, rows-within}
use Rattle.model.specs.FarmSheet.{FarmSheet, farm_sheet, no_farm, slot_sheet}
use Rattle.model.specs.Table.{no_held, slot, assembling_size}
use Rattle.table.specs.Layout.{block_size, table_size}
use Rattle.table.specs.Block.{farm_of}
use Rattle.lent.specs.Lent.{block, room_size, rooms_of, held_at, lent_table}
use Rattle.lent.proofs.SlotLaws.{slots_length, slot_at, slot-put}

-- ---- slots

pub lent_length : (s t m : List ℕ) → length (lent_table s t m) ≡ most_farms
unfolding lent_table
lent_length s t m = slots_length (held_at s t m) 0 most_farms

pub slot_is : (s t m : List ℕ) (f : ℕ) → f < most_farms → slot (lent_table s t m) f ≡ held_at s t m f
unfolding lent_table
slot_is s t m f h = slot_at (held_at s t m) no_held most_farms f h

pub slot-farm : (s : List ℕ) (f : ℕ) → f < farm_count s → slot_sheet s f ≡ farm_sheet s f
unfolding slot_sheet
slot-farm s f h = ap (λ b. pick b (farm_sheet s f) no_farm) (lt-ltb f (farm_count s) h)

pub slot-none : (s : List ℕ) (f : ℕ) → farm_count s ≤ f → slot_sheet s f ≡ no_farm
unfolding slot_sheet
slot-none s f h = ap (λ b. pick b (farm_sheet s f) no_farm) (le-ltb f (farm_count s) h)

-- ---- one block

module _ (t b : List ℕ) (f : ℕ) (long : length t ≡ table_size) (full : length b ≡ block_size) (h : f < most_farms) where
  fits : f * block_size + length b ≤ length t
  fits = omega (arith, long, full, h)

  pub block_own : block (put_at t (f * block_size) b) f ≡ b
  block_own = ap (part (put_at t (f * block_size) b) (f * block_size)) (sym full) ∙ part_same t (f * block_size) b fits

  pub block_other : (g : ℕ) → (g ≡ f → ⊥) → block (put_at t (f * block_size) b) g ≡ block t g
  block_other g k =
      ⊎_elim
      (λ (l : f ≤ g). part-after t (f * block_size) b fits (g * block_size) block_size (let n : f < g = omega (arith, k) in omega (arith, full)))
      (λ (l : g < f). part_before t (f * block_size) b fits (g * block_size) block_size (omega arith))
      (le_or_lt f g)

  -- another farm's block changes nothing but that farm
  pub table-put : (s m : List ℕ)
      → lent_table s (put_at t (f * block_size) b) m ≡ set (lent_table s t m) f (record { farm = farm_of b; rooms = (held_at s t m f).rooms })
  unfolding lent_table held_at
  table-put s m =
      slot-put (held_at s t m) (held_at s (put_at t (f * block_size) b) m) most_farms f h
      (λ g k. ap (λ (x : List ℕ). record { farm = farm_of x; rooms = rooms_of (slot_sheet s g) m }) (block_other g k))
      ∙ ap (λ (x : List ℕ). set (lent_table s t m) f (record { farm = farm_of x; rooms = rooms_of (slot_sheet s f) m })) block_own

-- ---- one room

module _ (s m r : List ℕ) (f seat : ℕ) (good : GoodSheet s) (inside : f < farm_count s) (mine : seat < rows_owned s f) (long : length m ≡ assembling_size) (full : length r ≡ room_size) where
  abbrev after : List ℕ
  after = put_at m ((first_row s f + seat) * room_size) r

  room_fits : (first_row s f + seat) * room_size + length r ≤ length m
  unfolding assembling_size
  room_fits = omega (arith, long, full, rows-within s f inside, rows_few s good, mine)

  farm-rooms : (g : ℕ) → g < farm_count s → (g ≡ f → ⊥) → rooms_of (farm_sheet s g) after ≡ rooms_of (farm_sheet s g) m
  unfolding farm_sheet
  farm-rooms g h k =
      ⊎_elim
      (λ (l : f ≤ g).
      parts-after m ((first_row s f + seat) * room_size) r room_fits room_size (first_row s g * room_size) (rows_owned s g)
      (let n : suc f ≤ g = omega (arith, k) in omega (arith, full, rows_mono s (suc f) g n, mine)))
      (λ (l : g < f).
      parts_before m ((first_row s f + seat) * room_size) r room_fits room_size (first_row s g * room_size) (rows_owned s g)
      (omega (arith, rows_mono s (suc g) f l)))
      (le_or_lt f g)

  other_rooms : (g : ℕ) → (g ≡ f → ⊥) → rooms_of (slot_sheet s g) after ≡ rooms_of (slot_sheet s g) m
  unfolding no_farm parts
  other_rooms g k =
      ⊎_elim
      (λ (l : farm_count s ≤ g). ap (λ (x : FarmSheet). rooms_of x after) (slot-none s g l) ∙ sym (ap (λ (x : FarmSheet). rooms_of x m) (slot-none s g l)))
      (λ (l : g < farm_count s).
      ap (λ (x : FarmSheet). rooms_of x after) (slot-farm s g l) ∙ farm-rooms g l k ∙ sym (ap (λ (x : FarmSheet). rooms_of x m) (slot-farm s g l)))
      (le_or_lt (farm_count s) g)

  own_rooms : rooms_of (slot_sheet s f) after ≡ set (rooms_of (slot_sheet s f) m) seat r
  unfolding farm_sheet
  own_rooms =
      ap (λ (x : FarmSheet). rooms_of x after) (slot-farm s f inside)
      ∙ parts_same m ((first_row s f + seat) * room_size) r room_fits room_size (first_row s f * room_size) (rows_owned s f) seat full (omega arith) mine
      ∙ sym (ap (λ (x : FarmSheet). set (rooms_of x m) seat r) (slot-farm s f inside))

  -- another row's room changes nothing but that room
  pub room-put : (t : List ℕ)
      → lent_table s t after ≡ set (lent_table s t m) f (record { farm = (held_at s t m f).farm; rooms = set (held_at s t m f).rooms seat r })
  unfolding lent_table held_at
  room-put t =
      slot-put (held_at s t m) (held_at s t after) most_farms f (omega (arith, inside, good.head.farms_at_most))
      (λ g k. ap (λ (x : List (List ℕ)). record { farm = farm_of (block t g); rooms = x }) (other_rooms g k))
      ∙ ap (λ (x : List (List ℕ)). set (lent_table s t m) f (record { farm = farm_of (block t f); rooms = x })) own_rooms
