-- `answer::run_out` meets its contract.
-- Assumes nothing.
use mathlib.Core.Path.{ap}
use mathlib.Core.Bool.{Bool}
use mathlib.Core.List.{List}
use Rattle.model.specs.FarmSheet.{FarmSheet}
use Rattle.model.specs.Farm.{Farm, closed_where}
use Rattle.model.specs.Line.{accepted, is_silent, answered}
use Rattle.table.specs.Block.{farm_of}
use Rattle.decide.specs.SiteSheet.{site_sheet}
use Rattle.closing.proofs.DidLaws.{did_same, did_then}
use Rattle.rowwork.proofs.answer.run_out.Goals as goal

pub returns : goal.returns
unfolding accepted
returns c =
    let s = c.args in
    let own : FarmSheet = site_sheet s.site in
    let f : Farm = farm_of s.b.now in
    let x = did_same _ (ap (λ (m : List Bool). closed_where own (is_silent s.check m) f) c.marks_at-m.ensures) c.close_silent.ensures in
    did_then _ (answered own s.head s.address accepted) x c.answer.ensures
