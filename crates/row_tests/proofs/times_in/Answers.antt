-- `times_in` meets its contract.
-- Assumes nothing.
use mathlib.Core.Path.{sym, ◌∙◌}
use native.Mathlib.Omega.{arith}
use mathlib.Core.List.{List}
use Prim.Native.Nat.{ℕ}
use lib.Dec.{eqb}
use lib.ListN.{get_or}
use borrow.Author.Tests.{tests}
use Rattle.std.proofs.Common.{rules}
use Rattle.std.proofs.lemmas.Iterator.{YieldsList-from_range}
use Rattle.std.proofs.lemmas.Iterator.Consumers.{YieldsList-from_filter, count_from_yields_List}
use Rattle.table.specs.Block.{farm_of}
use Rattle.decide.proofs.RangeLaws.{counted_from}
use Rattle.row_tests.proofs.times_in.Goals as goal

pub returns : goal.returns
returns c =
    let line : List ℕ = (farm_of c.args.b.now).line in
    let n : ℕ = c.waiting.result in
    count_from_yields_List _ _ c.count.ensures.ran
    (YieldsList-from_filter _ (λ k. eqb c.args.i (get_or line k 0)) (YieldsList-from_range 0 n n c.filter.ensures.source (omega arith)) c.filter.ensures.closure (λ x b q k. search (rules, tests)))
    ∙ counted_from (eqb c.args.i) 0 line 0 n (sym c.waiting.ensures)
