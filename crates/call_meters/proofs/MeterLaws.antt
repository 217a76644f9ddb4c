-- The meters of a slot, as the query answers them.
-- Assumes nothing.
use Prim.Native.Nat.{ℕ, ◌≤◌, ◌<◌}
use mathlib.Core.Path.{◌≡◌, sym, ap}
use mathlib.Core.List.{List}
use native.Mathlib.Omega.{arith}
use lib.ListN.{get_or-eq_default}
use Rattle.sheet.specs.Sheet.{most_farms}
use Rattle.model.specs.Farm.{new_farm}
use Rattle.model.specs.Move.{Held}
use Rattle.model.specs.Table.{no_held, slot}
use Rattle.table.specs.Block.{farm_of}
use Rattle.lent.specs.Lent.{block, held_at, lent_table}
use Rattle.lent.proofs.LentLaws.{lent_length, slot_is}

pub slot-meters : (s t m : List ℕ) (f : ℕ) → f < most_farms → (farm_of (block t f)).meters ≡ (slot (lent_table s t m) f).farm.meters
unfolding held_at
slot-meters s t m f h = sym (ap (λ (x : Held). x.farm.meters) (slot_is s t m f h))

pub no_meters : (s t m : List ℕ) (f : ℕ) → most_farms ≤ f → record { taken = 0; finished = 0; lost = 0 } ≡ (slot (lent_table s t m) f).farm.meters
unfolding new_farm
no_meters s t m f h = sym (ap (λ (x : Held). x.farm.meters) (get_or-eq_default (lent_table s t m) no_held (omega (arith, lent_length s t m, h))))
