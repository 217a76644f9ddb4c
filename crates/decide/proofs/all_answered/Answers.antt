-- `all_answered` meets its contract.
-- Assumes nothing.
use mathlib.Core.Path.{refl, ◌∙◌}
use mathlib.Core.Bool.{Bool, not}
use mathlib.Core.List.{List}
use Prim.Native.Nat.{ℕ}
use borrow.Author.Tests.{tests}
use Rattle.std.proofs.Common.{rules}
use Rattle.std.proofs.lemmas.Iterator.{YieldsList-from_range}
use Rattle.std.proofs.lemmas.Iterator.Search.{all_from_yields_List}
use Rattle.kinds.specs.declared.Row.{Row}
use Rattle.model.specs.Row.{row_at}
use Rattle.model.specs.Farm.{seat_count}
use Rattle.model.specs.Line.{is_silent, all_answered}
use Rattle.table.specs.Block.{farm_of}
use Rattle.decide.proofs.RangeLaws.{none_from}
use Rattle.decide.proofs.all_answered.Goals as goal

pub returns : goal.returns
unfolding all_answered seat_count
returns c =
    let s = c.args in
    let rows : List Row = (farm_of s.b.now).rows in
    let silent : ℕ → Bool = λ k. is_silent s.check s.m k (row_at rows k) in
    all_from_yields_List (λ k. not (silent k)) _ _ _ c.all.ensures.ran (YieldsList-from_range 0 9 9 refl refl) (λ x b q k. search (rules, tests))
    ∙ none_from silent 9
