-- The code for a request on an active row.
-- Assumes nothing: these are definitions.
use Rattle.std.specs.Prelude.{ℕ, eqb}
use Rattle.octets.specs.Choice.{pick}
use Rattle.model.specs.Line.{accepted}

-- "row already active: 10 if the same address, else 02."
abbrev pub again_code : ℕ → ℕ → ℕ
again_code active address = pick (eqb active address) accepted 0x02
