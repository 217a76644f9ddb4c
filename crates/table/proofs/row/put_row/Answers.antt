-- `row::put_row` meets its contract.
-- Assumes nothing.
use mathlib.Core.Path.{◌≡◌, ap, ◌∙◌}
use mathlib.Core.List.{List}
use Prim.Native.Nat.{ℕ, ◌+◌, ◌*◌}
use native.Mathlib.Omega.{arith}
use lib.ListN.{length}
use Rattle.octets.specs.Put.{put_at}
use Rattle.rowbytes.specs.RowLayout.{row_size, place_in, head_in, head_size}
use Rattle.table.specs.Layout.{rows_at}
use Rattle.table.proofs.RowStores.{row-stored}
use borrow.Author.Rules.{rules}
use Rattle.table.proofs.row.put_row.Goals as goal

pub put-requires-3 : goal.put-requires-3
put-requires-3 c =
    let nine : length c.args.row.head ≡ head_size = search rules in
    omega arith

pub returns : goal.returns
returns c =
    let b : List ℕ = c.args.b.now in
    let i : ℕ = c.args.i in
    let nine : length c.args.row.head ≡ head_size = search rules in
    let e = c.row_range-at.ensures.0 in
    let at : ℕ = rows_at + i * row_size in
    let x = c.put in
    let y = c.put-2 in
    row-stored b c.requires.1 i c.requires.0 x.new.out y.new.out _ c.args.row nine
    (x.ensures ∙ ap (λ (k : ℕ). put_at b k c.state_bytes.result) e ∙ ap (put_at b at) c.state_bytes.ensures)
    (y.ensures ∙ ap (λ (k : ℕ). put_at x.new.out (k + place_in) c.place_bytes.result) e ∙ ap (put_at x.new.out (at + place_in)) c.place_bytes.ensures)
    (c.put-3.ensures ∙ ap (λ (k : ℕ). put_at y.new.out (k + head_in) c.args.row.head) e)
