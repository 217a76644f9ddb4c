-- `block::seats_keep` meets its contract.
-- Assumes nothing.
use mathlib.Core.Path.{refl, ◌∙◌}
use borrow.Author.Tests.{tests}
use Rattle.std.proofs.Common.{rules}
use Rattle.std.proofs.lemmas.Iterator.{YieldsList-from_range}
use Rattle.std.proofs.lemmas.Iterator.Search.{all_from_yields_List}
use Rattle.model.specs.FarmSheet.{FarmSheet}
use Rattle.model.specs.Farm.{Farm, seat_count}
use Rattle.model.specs.RuleTest.{every_seat}
use Rattle.table.specs.Block.{farm_of}
use Rattle.decide.proofs.RowLaws.{nine}
use Rattle.decide.proofs.RangeLaws.{every_from}
use Rattle.row_rules.specs.Seat.{rule_sheet, seat_test}
use Rattle.row_rules.proofs.SeatLaws.{tests_same, head-eight}
use Rattle.rules.proofs.block.seats_keep.Goals as goal

pub returns : goal.returns
unfolding every_seat seat_count
returns c =
    let s = c.args in
    let own : FarmSheet = rule_sheet s.s.now s.f.0 s.site s.rows in
    let x : Farm = farm_of s.b.now in
    all_from_yields_List (seat_test own x) _ _ _ c.all.ensures.ran (YieldsList-from_range 0 9 9 refl refl) (λ k b q h. search (rules, tests))
    ∙ every_from (seat_test own x) 9
    ∙ tests_same own x (nine s.b.now) (λ i k. head-eight s.b.now i c.requires.0 k)
