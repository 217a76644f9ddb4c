-- `zeros_from` meets its contract: each byte that is looked at is 0.
-- Assumes nothing.
use borrow.Author.Rules.{rules}
use borrow.Author.Tests.{tests}
use mathlib.Core.Path.{◌≡◌}
use mathlib.Core.List.{List}
use Prim.Native.Nat.{ℕ}
use lib.ListN.{length}
use Rattle.std.proofs.lemmas.Iterator.{YieldsList-from_slice, cases_from_all}
use Rattle.std.proofs.lemmas.Iterator.Adapters.{YieldsList-from_skip}
use Rattle.wire.specs.Header.{header_size}
use Rattle.place_rules.proofs.PlaceLaws.{rest_zeros}
use Rattle.place_rules.proofs.zeros_from.Goals as goal

pub returns : goal.returns
returns c =
    let head : List ℕ = c.args.head in
    let eight : length head ≡ header_size = search rules in
    rest_zeros head eight c.args.n c.all.result
    (cases_from_all _ _ _ (λ x. x ≡ 0) (λ x. x ≡ 0 → ⊥) c.all.ensures.ran
    (YieldsList-from_skip c.args.n (YieldsList-from_slice head cc) cc)
    (λ x q k. search (rules, tests))
    (λ x q k. search (rules, tests)))
