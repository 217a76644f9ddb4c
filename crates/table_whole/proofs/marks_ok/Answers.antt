-- `marks_ok` meets its contract.
-- Assumes nothing.
use Prim.Native.Nat.{◌≤◌, ◌<◌}
use Rattle.std.proofs.Common.{rules}
use Rattle.std.proofs.lemmas.Iterator.{YieldsList-from_slice, cases_from_all}
use borrow.Author.Tests.{tests}
use Rattle.octets.specs.Parts.{part}
use Rattle.table.specs.Layout.{seats, marks_at}
use Rattle.table_whole.proofs.WholeLaws.{marks_say}
use Rattle.table_whole.proofs.marks_ok.Goals as goal

pub returns : goal.returns
returns c =
    marks_say c.args.b.now c.requires c.all.result
    (cases_from_all _ _ c.all.result (λ x. x ≤ 1) (λ x. 1 < x) c.all.ensures.ran (YieldsList-from_slice (part c.args.b.now marks_at seats) c.iter.ensures.rest)
    (λ x q k. search (rules, tests)) (λ x q k. search (rules, tests)))
