-- `rows::rows_before` meets its contract: fewer than 65,536 farms, and no farm adds more than 256.
-- Assumes nothing.
use mathlib.Core.Path.{◌∙◌}
use native.Mathlib.Omega.{arith}
use borrow.Author.Tests.{tests}
use Rattle.std.proofs.Common.{rules}
use Rattle.std.specs.List.{range_with_len}
use Rattle.std.proofs.lemmas.Iterator.{YieldsList-from_range, YieldsList-from_map}
use Rattle.std.proofs.lemmas.Iterator.Adapters.{fits_from_length, at_most_from_yields_List}
use Rattle.std.proofs.lemmas.Iterator.Consumers.{sum_by_from_yields_List}
use Rattle.sheet.specs.Rows.{rows_owned}
use Rattle.sheet.proofs.RowsLaws.{range-long, summed_all}
use Rattle.sheet.proofs.rows.rows_before.Goals as goal

pub sum-requires-clause-fits : goal.sum-requires-clause-fits
sum-requires-clause-fits c =
    let n = c.args.n in
    fits_from_length _ _ 65535 _
    (at_most_from_yields_List (YieldsList-from_range 0 n n (search rules) (omega arith)) (omega (arith, range-long 0 n)))
    c.map.ensures.closure (omega arith) (λ x r q k. search (rules, tests))

pub returns : goal.returns
returns c =
    let s = c.args.s.now in
    let n = c.args.n in
    sum_by_from_yields_List (rows_owned s) (range_with_len 0 n) _ c.sum.result c.sum.ensures.ran
    (YieldsList-from_map _ (rows_owned s) (YieldsList-from_range 0 n n (search rules) (omega arith)) c.map.ensures.closure (λ x r q k. search (rules, tests)))
    ∙ summed_all s n
