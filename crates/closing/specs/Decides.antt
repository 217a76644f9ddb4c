-- What a closure must say of the rows of a block.
-- Assumes nothing: these are definitions.
use Rattle.std.specs.Prelude.{ℕ, ◌<◌, ◌≡◌, Bool, List, length}
use Rattle.std.specs.Borrow.{Bor}
use Rattle.std.specs.Fn.{Shared}
use Rattle.kinds.specs.declared.Row.{Row}
use Rattle.model.specs.Row.{row_at}
use Rattle.table.specs.Layout.{seats, block_size}
use Rattle.table.specs.Block.{farm_of}

-- f may be called at each block and each of its seats, and says there whether the row passes the test
pub record Decides {F : Type 0} (g : Shared F (Bor (List ℕ) × (ℕ × Unit {0})) Bool) (f : F) (test : ℕ → Row → Bool) : Type 0 where
  pub takes : (b : Bor (List ℕ)) (seat : ℕ) → seat < seats → length b.now ≡ block_size → g.pre f (b, (seat, tt))
  pub says : (b : Bor (List ℕ)) (seat : ℕ) (r : Bool) → seat < seats → length b.now ≡ block_size → g.post f (b, (seat, tt)) r
      → r ≡ test seat (row_at (farm_of b.now).rows seat)
