-- `block::line_seated` meets its contract.
-- Assumes nothing.
use mathlib.Core.Path.{refl, sym, ◌∙◌}
use mathlib.Core.List.{List}
use Prim.Native.Nat.{ℕ}
use native.Mathlib.Omega.{arith}
use lib.Dec.{ltb}
use lib.ListN.{get_or}
use borrow.Author.Tests.{tests}
use Rattle.std.proofs.Common.{rules}
use Rattle.std.proofs.lemmas.Iterator.{YieldsList-from_range}
use Rattle.std.proofs.lemmas.Iterator.Search.{all_from_yields_List}
use Rattle.table.specs.Layout.{seats}
use Rattle.table.specs.Block.{farm_of}
use Rattle.decide.proofs.RangeLaws.{all_from}
use Rattle.rules.proofs.block.line_seated.Goals as goal

pub returns : goal.returns
returns c =
    let line : List ℕ = (farm_of c.args.b.now).line in
    let n : ℕ = c.waiting.result in
    all_from_yields_List (λ k. ltb (get_or line k 0) seats) _ _ _ c.all.ensures.ran (YieldsList-from_range 0 n n refl (omega arith)) (λ x b q k. search (rules, tests))
    ∙ all_from (λ x. ltb x seats) 0 line 0 n (sym c.waiting.ensures)
