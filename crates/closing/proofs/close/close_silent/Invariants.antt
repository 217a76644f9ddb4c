-- `close::close_silent`: the test that its closure decides.
-- Assumes nothing.
use Rattle.model.specs.Line.{is_silent}
use Rattle.closing.proofs.close.close_silent.Given as goal

abbrev pub ghost-close_where : goal.ghost-close_where
ghost-close_where a = is_silent a.passes.0.now a.passes.1.now
