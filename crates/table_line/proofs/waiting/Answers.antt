-- `waiting` meets its contract.
-- Assumes nothing.
use mathlib.Core.Path.{ap, ◌∙◌}
use Prim.Native.Nat.{ℕ, min}
use Rattle.table.specs.Layout.{seats}
use Rattle.table_line.proofs.LineStores.{so_many}
use Rattle.table_line.proofs.waiting.Goals as goal

pub returns : goal.returns
returns c = c.min.ensures ∙ ap (λ (n : ℕ). min n seats) c.wide.ensures ∙ so_many c.args.b.now c.requires
