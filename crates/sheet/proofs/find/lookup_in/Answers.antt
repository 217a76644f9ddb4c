-- `find::lookup_in` meets its contract.
-- Assumes nothing.
use mathlib.Core.Path.{sym, ◌∙◌}
use Prim.Native.Nat.{ℕ, ◌+◌, ◌*◌}
use native.Mathlib.Omega.{arith}
use borrow.Author.Tests.{tests}
use lib.Dec.{eqb}
use Rattle.std.proofs.Common.{rules}
use Rattle.std.proofs.lemmas.Iterator.{YieldsList-from_range, YieldsList-from_map}
use Rattle.std.proofs.lemmas.Iterator.Adapters.{option_map_id}
use Rattle.std.proofs.lemmas.Iterator.Search.{find_from_yields_List}
use Rattle.octets.specs.Parts.{part}
use Rattle.sheet.specs.declared.find.Known.{Known}
use Rattle.sheet.specs.Sheet.{known_size, known_from}
use Rattle.sheet.proofs.FindLaws.{found_in_all}
use Rattle.sheet.proofs.find.lookup_in.Goals as goal

pub returns : goal.returns
returns c =
    let a = c.args in
    sym (option_map_id c.find.result)
    ∙ find_from_yields_List (λ (k : Known). eqb k.address a.address) _ _ _ c.find.ensures.ran
    (YieldsList-from_map _ (λ (i : ℕ). known_from (part a.s.now (a.at + i * known_size) known_size))
    (YieldsList-from_range 0 a.n a.n (search rules) (omega arith)) c.map.ensures.closure (λ x r q k. search (rules, tests)))
    (λ x b q k. search (rules, tests))
    ∙ found_in_all a.address a.s.now a.at a.n
