-- The table of types: how long it is.
-- Assumes nothing.
use mathlib.Core.Path.{◌≡◌, refl}
use lib.ListN.{length}
use Rattle.types.specs.Types.{types}

pub types-length : length types ≡ 14
unfolding types
types-length = refl
