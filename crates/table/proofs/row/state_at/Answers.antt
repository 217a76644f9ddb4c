-- `row::state_at` meets its contract.
-- Assumes nothing.
use mathlib.Core.Path.{sym, ap, ◌∙◌}
use mathlib.Core.List.{List}
use Prim.Native.Nat.{ℕ}
use Rattle.kinds.specs.declared.Row.{Row}
use Rattle.rowbytes.specs.RowBytes.{state_in, row_from}
use Rattle.table.proofs.RowStores.{row-lent}
use Rattle.table.proofs.BlockLaws.{row_read, no_row_read}
use Rattle.table.proofs.row.state_at.Goals as goal

pub returns-then-i-lt-SEATS : goal.returns-then-i-lt-SEATS
unfolding row_from
returns-then-i-lt-SEATS c =
    let b : List ℕ = c.args.b.now in
    let i : ℕ = c.args.i in
    c.read_state.ensures ∙ ap state_in (row-lent b i c.row_range.ensures.0 c.row_range.ensures.1) ∙ ap (λ (r : Row). r.state) (row_read b i c.if-i-lt-SEATS.true)

pub returns : goal.returns
returns c = sym (ap (λ (r : Row). r.state) (no_row_read c.args.b.now c.args.i c.if-i-lt-SEATS.false))
