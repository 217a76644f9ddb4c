-- What a verdict does to the head of the line.
-- Assumes nothing: these are definitions.
use Rattle.std.specs.Prelude.{ℕ}
use Rattle.kinds.specs.declared.HeadVerdict.{HeadVerdict}
use Rattle.kinds.specs.declared.HeadVerdict.TheVariants.{Pending, Answer, RunOut}
use Rattle.model.specs.FarmSheet.{FarmSheet}
use Rattle.model.specs.Farm.{Farm, Done, quietly, and_then, closed_where}
use Rattle.model.specs.Line.{accepted, is_silent, answered}

-- what a verdict does to the head that asks for this address, before the line goes on
unfoldable pub acted : FarmSheet → ℕ → ℕ → HeadVerdict → Farm → Done
acted own head address Pending f = quietly f
acted own head address (Answer code) f = answered own head address code f
acted own head address (RunOut check) f =
    and_then (closed_where own (is_silent check f.marks) f) (answered own head address accepted)
