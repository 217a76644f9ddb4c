-- `clear_line` meets its contract.
-- Assumes nothing.
use mathlib.Core.Path.{refl}
use mathlib.Core.List.{[]}
use native.Mathlib.Omega.{arith}
use lib.ListN.{replicate}
use Rattle.table.specs.Layout.{seats}
use Rattle.table_line.proofs.LineStores.{line-stored}
use Rattle.table_line.proofs.clear_line.Goals as goal

pub returns : goal.returns
returns c =
    line-stored c.args.b.now c.requires _ [] (replicate seats 0) 0 (omega arith) refl refl c.store.ensures
