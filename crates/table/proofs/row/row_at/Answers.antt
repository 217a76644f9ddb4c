-- `row::row_at` meets its contract.
-- Assumes nothing.
use mathlib.Core.Path.{sym, ap, ◌∙◌}
use mathlib.Core.List.{List}
use Prim.Native.Nat.{ℕ}
use Rattle.rowbytes.specs.RowBytes.{row_from}
use Rattle.table.proofs.RowStores.{row-lent}
use Rattle.table.proofs.BlockLaws.{row_read, no_row_read}
use Rattle.table.proofs.row.row_at.Goals as goal

pub returns-then-i-lt-SEATS : goal.returns-then-i-lt-SEATS
returns-then-i-lt-SEATS c =
    let b : List ℕ = c.args.b.now in
    let i : ℕ = c.args.i in
    c.read_row.ensures ∙ ap row_from (row-lent b i c.row_range.ensures.0 c.row_range.ensures.1) ∙ row_read b i c.if-i-lt-SEATS.true

pub returns : goal.returns
returns c = c.free_row.ensures ∙ sym (no_row_read c.args.b.now c.args.i c.if-i-lt-SEATS.false)
