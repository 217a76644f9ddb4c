-- Document 01, "Farm sheet": "A lookup that finds nobody is an ordinary answer."
-- Assumes nothing: this is a definition.
use Rattle.std.specs.Prelude.{ℕ, List, [], ◌∷◌, eqb, Option, Some, None}
use Rattle.octets.specs.Choice.{pick}
use Rattle.sheet.specs.declared.find.Known.{Known}

-- the first with this address
unfoldable pub lookup : ℕ → List Known → Option Known
lookup x [] = None
lookup x (k ∷ l) = pick (eqb k.address x) (Some k) (lookup x l)
