-- `rows_ok` meets its contract.
-- Assumes nothing.
use mathlib.Core.Path.{refl}
use mathlib.Core.Bool.{true, false}
use mathlib.Core.List.{List}
use Prim.Native.Nat.{ℕ}
use native.Mathlib.Omega.{arith}
use Rattle.std.proofs.Common.{rules}
use Rattle.std.proofs.lemmas.Iterator.{cases_from_all}
use Rattle.octets.specs.Says.{Says}
use Rattle.octets.proofs.SaysLaws.{refuted}
use Rattle.rowbytes.specs.RowLayout.{row_size}
use Rattle.rowbytes.specs.RowBytes.{RowOk}
use Rattle.table.specs.Layout.{seats, rows_at}
use Rattle.table_whole.proofs.WholeLaws.{rows-say}
use Rattle.table_whole.proofs.PartsYield.{parts_yield}
use Rattle.table_whole.proofs.rows_ok.Goals as goal

pub returns : goal.returns
returns c =
    let b : List ℕ = c.args.b.now in
    rows-say b c.requires c.all.result
    (cases_from_all _ _ c.all.result RowOk (λ s. RowOk s → ⊥) c.all.ensures.ran (parts_yield row_size (omega arith) seats b rows_at c.requires c.chunks_exact.ensures.size c.chunks_exact.ensures.rest)
    (λ x q k. let z : Says true (RowOk x.now) = search rules in (refl, z.right refl)) (λ x q k. let z : Says false (RowOk x.now) = search rules in refuted z refl))
