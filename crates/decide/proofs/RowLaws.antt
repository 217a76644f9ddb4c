-- Laws of a block's rows: so many, and what is found among them.
-- Assumes nothing.
use Rattle.std.proofs.Common.{Some}
use Prim.Native.Nat.{ℕ, suc, ◌+◌, ◌<◌}
use mathlib.Core.Path.{◌≡◌, ◌∙◌}
use mathlib.Core.Bool.{Bool, true, false}
use mathlib.Core.List.{List, [], ◌∷◌}
use native.Mathlib.Omega.{arith}
use lib.ListN.{length, length-map}
use Rattle.octets.specs.Choice.{pick}
use Rattle.octets.specs.Search.{first_at}
use Rattle.octets.specs.Parts.{parts}
use Rattle.octets.proofs.PartsLaws.{parts-length}
use Rattle.rowbytes.specs.RowLayout.{row_size}
use Rattle.rowbytes.specs.RowBytes.{row_from}
use Rattle.table.specs.Layout.{seats, rows_at}
use Rattle.table.specs.Block.{farm_of}

pub nine : (b : List ℕ) → length (farm_of b).rows ≡ seats
unfolding farm_of
nine b = length-map (parts row_size rows_at seats b) row_from ∙ parts-length row_size rows_at seats b

-- what is found is in the list
pub found_below : {A : Type 0} (p : A → Bool) (k : ℕ) (l : List A) (i : ℕ) → first_at p k l ≡ Some i → i < k + length l
unfolding first_at
found_below p k [] i e = absurd (let z : ◌≡◌ {A = ℕ} 0 1 = cc in omega arith)
found_below p k (x ∷ l) i e = by (p x) (found_below p (suc k) l i) e
  where
    by : (t : Bool) → (first_at p (suc k) l ≡ Some i → i < suc k + length l) → pick t (Some k) (first_at p (suc k) l) ≡ Some i → i < k + suc (length l)
    by true more h = let z : k ≡ i = cc in omega arith
    by false more h = omega (arith, more h)
