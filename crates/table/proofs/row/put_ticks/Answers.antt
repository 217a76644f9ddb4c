-- `row::put_ticks` meets its contract.
-- Assumes nothing.
use mathlib.Core.Path.{sym, ap, ◌∙◌}
use mathlib.Core.Logic.{⊎_elim}
use Prim.Native.Nat.{ℕ, ◌+◌}
use Rattle.octets.specs.Numbers.{be16}
use Rattle.octets.specs.Put.{put_at}
use Rattle.rowbytes.specs.RowLayout.{ticks_in}
use Rattle.table.proofs.RowStores.{fresh-ticked, active_ticked}
use Rattle.table.proofs.row.put_ticks.Goals as goal

pub returns-in-Fresh : goal.returns-in-Fresh
returns-in-Fresh c =
    let s = c.args in
    let e = c.write16.ensures ∙ ap (λ (k : ℕ). put_at s.b.now (k + ticks_in) (be16 s.n)) c.row_range.ensures.0 in
    ⊎_elim
    (λ z. fresh-ticked s.b.now c.requires.1 s.i c.requires.0 _ s.n _ (sym c.state_at.ensures ∙ z.1) e)
    (λ z. active_ticked s.b.now c.requires.1 s.i c.requires.0 _ s.n _ _ (sym c.state_at.ensures ∙ z.2) e)
    c.in-Fresh.is
