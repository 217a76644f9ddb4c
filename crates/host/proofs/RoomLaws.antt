-- The rooms that were lent to an accepted start: one of 2,048 bytes for each row of a farm.
-- Assumes nothing.
use Prim.Native.Nat.{ℕ, ◌+◌, ◌*◌, ◌≤◌, ◌<◌}
use mathlib.Core.Path.{◌≡◌, ap, ◌∙◌}
use mathlib.Core.List.{List, []}
use native.Mathlib.Omega.{arith}
use lib.ListN.{length, get_or, length-map, get_or-map, get_or-eq_default}
use Rattle.octets.proofs.PartsLaws.{parts_get, parts-length, length_part}
use Rattle.sheet.specs.Sheet.{most_farms, farm_count}
use Rattle.sheet.specs.Rows.{first_row, rows_owned}
use Rattle.sheet.specs.Rules.{GoodSheet}
use Rattle.sheet.proofs.RowsLaws.{rows-within, rows_few}
use Rattle.model.specs.FarmSheet.{FarmSheet, farm_sheet}
use Rattle.model.specs.Move.{Held}
use Rattle.model.specs.Table.{no_held, assembling_size}
use Rattle.lent.specs.Lent.{room_size, rooms_of, held_at, lent_table}
use Rattle.lent.proofs.LentLaws.{lent_length, slot_is, slot-farm}
use Rattle.host.specs.Calls.{rooms_in}

module _ (s t m : List ℕ) (good : GoodSheet s) (wide : length m ≡ assembling_size) where
  pub rooms_slots : length (rooms_in s t m) ≡ most_farms
  rooms_slots = length-map (lent_table s t m) (λ (h : Held). h.rooms) ∙ lent_length s t m

  pub rooms-farm : (f : ℕ) → f < farm_count s → get_or (rooms_in s t m) f [] ≡ rooms_of (farm_sheet s f) m
  unfolding held_at
  rooms-farm f h =
      get_or-map (λ (x : Held). x.rooms) (lent_table s t m) f no_held
      ∙ ap (λ (x : Held). x.rooms) (slot_is s t m f (omega (arith, h, good.head.farms_at_most)))
      ∙ ap (λ (x : FarmSheet). rooms_of x m) (slot-farm s f h)

  -- as many as the farm owns rows
  pub rooms-count : (f : ℕ) → f < farm_count s → length (get_or (rooms_in s t m) f []) ≡ rows_owned s f
  unfolding farm_sheet
  rooms-count f h = ap length (rooms-farm f h) ∙ parts-length room_size (first_row s f * room_size) (rows_owned s f) m

  -- each of 2,048 bytes
  pub room-long : (f seat : ℕ) → f < farm_count s → seat < rows_owned s f → length (get_or (get_or (rooms_in s t m) f []) seat []) ≡ room_size
  unfolding farm_sheet assembling_size
  room-long f seat h k =
      ap (λ (x : List (List ℕ)). length (get_or x seat [])) (rooms-farm f h)
      ∙ ap length (parts_get room_size (first_row s f * room_size) (rows_owned s f) seat m k)
      ∙ length_part m (first_row s f * room_size + seat * room_size) room_size (omega (arith, wide, rows-within s f h, rows_few s good, k))

  pub room-none : (f seat : ℕ) → f < farm_count s → rows_owned s f ≤ seat → get_or (get_or (rooms_in s t m) f []) seat [] ≡ []
  room-none f seat h k = get_or-eq_default (get_or (rooms_in s t m) f []) [] (omega (arith, rooms-count f h, k))
