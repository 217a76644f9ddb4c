-- `line_ok` meets its contract.
-- Assumes nothing.
use mathlib.Core.Path.{◌≡◌, ap, ◌∙◌}
use mathlib.Core.Logic.{◌≢◌}
use mathlib.Core.List.{List}
use Prim.Native.Nat.{ℕ, ◌+◌, ◌-◌, ◌≤◌}
use native.Mathlib.Omega.{arith}
use lib.ListN.{get_or}
use borrow.Author.Tests.{tests, lt-leb}
use Rattle.std.proofs.Common.{rules}
use Rattle.std.proofs.lemmas.Iterator.{YieldsList-from_slice, cases_from_all}
use Rattle.octets.specs.Parts.{part}
use Rattle.octets.proofs.SaysLaws.{says_no}
use Rattle.table.specs.Layout.{seats, line_at, seats_at}
use Rattle.table_whole.proofs.WholeLaws.{line_few, line-says}
use Rattle.table_whole.proofs.line_ok.Goals as goal

pub returns-then-n-le-SEATS : goal.returns-then-n-le-SEATS
returns-then-n-le-SEATS c =
    let b : List ℕ = c.args.b.now in
    let n : ℕ = c.wide-n.result in
    let m : 22 - (13 + n) ≡ seats - n = omega arith in
    line-says b c.requires n c.wide-n.ensures c.if-n-le-SEATS.true c.all.result
    (cases_from_all _ _ c.all.result (λ x. x ≡ 0) (λ x. x ≢ 0) c.all.ensures.ran
    (YieldsList-from_slice (part b (seats_at + n) (seats - n)) (c.iter.ensures.rest ∙ ap (λ (m : ℕ). part b (seats_at + n) m) m))
    (λ x q k. search (rules, tests)) (λ x q k. search (rules, tests)))

pub returns-else-n-le-SEATS : goal.returns-else-n-le-SEATS
returns-else-n-le-SEATS c =
    let b : List ℕ = c.args.b.now in
    rw (lt-leb c.wide-n.result seats c.if-n-le-SEATS.false)
    (says_no (λ h. let k : get_or b line_at 0 ≤ seats = line_few b c.requires h in omega (arith, c.wide-n.ensures, c.if-n-le-SEATS.false)))
