-- An answer that may close the row.
-- Assumes nothing: these are definitions.
use Rattle.std.specs.Prelude.{ℕ, Bool, [], ◌∷◌}
use Rattle.octets.specs.Choice.{pick}
use Rattle.kinds.specs.declared.Reply.{Reply}
use Rattle.model.specs.FarmSheet.{FarmSheet}
use Rattle.model.specs.Farm.{Farm, Done, does, and_then, says, closed}

-- an entry on the row, and its close where the rule closes
abbrev pub refused_by : FarmSheet → ℕ → Reply → Bool → Farm → Done
refused_by own seat reply closes f =
    pick closes (and_then (does f (says own seat reply ∷ [])) (closed own seat)) (does f (says own seat reply ∷ []))
