-- `seats_of` meets its contract.
-- Assumes nothing.
use mathlib.Core.Path.{◌∙◌}
use mathlib.Core.List.{List}
use Prim.Native.Nat.{ℕ}
use native.Mathlib.Omega.{arith}
use lib.ListN.{replicate}
use Rattle.octets.specs.Parts.{part}
use Rattle.table.specs.Layout.{seats, seats_at}
use Rattle.table_line.proofs.LineStores.{copied}
use Rattle.octets.proofs.PartsLaws.{length_part}
use Rattle.table_line.proofs.seats_of.Goals as goal

pub returns : goal.returns
returns c =
    let b : List ℕ = c.args.b.now in
    c.put.ensures ∙ copied (replicate seats 0) (part b seats_at seats) (length_part b seats_at seats (omega (arith, c.requires)))
