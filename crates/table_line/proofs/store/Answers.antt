-- `store` meets its contract.
-- Assumes nothing.
use mathlib.Core.Path.{◌≡◌, ap, ◌∙◌}
use mathlib.Core.List.{List}
use Prim.Native.Nat.{ℕ}
use native.Mathlib.Omega.{arith}
use lib.ListN.{length, set}
use Rattle.table.specs.Layout.{seats, line_at, seats_at}
use Rattle.table_line.proofs.LineStores.{stored-two}
use lib.ListN.{length-set}
use Rattle.octets.proofs.PutLaws.{length-put_at}
use borrow.Author.Rules.{rules}
use Rattle.table_line.proofs.store.Goals as goal

pub put-requires : goal.put-requires
put-requires c =
    let nine : length c.args.t ≡ seats = search rules in
    omega (arith, nine, c.requires, length-set c.args.b.now line_at c.args.n)

pub shape_of-b : goal.shape_of-b
shape_of-b c =
    let nine : length c.args.t ≡ seats = search rules in
    let b : List ℕ = c.args.b.now in
    let n : length (set b line_at c.args.n) ≡ length b = length-set b line_at c.args.n in
    ap length c.put.ensures ∙ length-put_at (set b line_at c.args.n) seats_at c.args.t (omega (arith, nine, c.requires)) ∙ n

pub returns : goal.returns
returns c =
    let nine : length c.args.t ≡ seats = search rules in
    stored-two c.args.b.now _ c.args.n c.args.t c.requires nine c.put.ensures
