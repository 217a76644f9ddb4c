-- `known` meets its contract: some line passes the test.
-- Assumes nothing.
use mathlib.Core.Path.{ap, ◌∙◌}
use mathlib.Core.Bool.{Bool}
use mathlib.Core.List.{List}
use borrow.Author.Rules.{rules}
use Rattle.std.proofs.Common.{◌↔◌, IsTrue}
use Rattle.std.specs.List.{Any}
use Rattle.octets.specs.Search.{some}
use Rattle.octets.proofs.SearchLaws.{some_any}
use Rattle.types.specs.declared.Kind.{Kind}
use Rattle.types.specs.Types.{is_of, known_on}
use Rattle.types.proofs.known.Goals as goal

pub returns : goal.returns
unfolding known_on
returns c =
    let p : Kind → Bool = is_of c.args.port c.args.kind in
    let lines : List Kind = c.lines.result.now in
    let found : IsTrue c.any.result ↔ Any (λ k. IsTrue (p k)) lines = search rules in
    some_any p lines c.any.result found ∙ ap (some p) c.lines.ensures
