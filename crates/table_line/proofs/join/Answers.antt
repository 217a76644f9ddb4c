-- `join` meets its contract.
-- Assumes nothing.
use mathlib.Core.Path.{ap, ◌∙◌}
use mathlib.Core.List.{List, ◌∷◌}
use Prim.Native.Nat.{ℕ, ◌+◌}
use lib.ListN.{set}
use Rattle.octets.specs.Put.{put_at}
use Rattle.table.specs.Layout.{line_at}
use Rattle.table_line.proofs.LineStores.{joined-stored}
use Rattle.table_line.proofs.join.Goals as goal

pub returns : goal.returns
returns c =
    let b : List ℕ = c.args.b.now in
    let n = c.waiting-n in
    joined-stored b c.requires.2 _ c.args.seat n.result c.requires.1 n.ensures
    (c.store.ensures
    ∙ ap (λ (t : List ℕ). put_at b line_at ((n.result + 1) ∷ set t n.result c.args.seat)) c.seats_of-t.ensures)
