-- `close::close_open`: the test that its closure decides.
-- Assumes nothing.
use Rattle.std.proofs.Common.{ℕ}
use Rattle.kinds.specs.declared.Row.{Row}
use Rattle.model.specs.Row.{is_open}
use Rattle.closing.proofs.close.close_open.Given as goal

abbrev pub ghost-close_where : goal.ghost-close_where
ghost-close_where a = λ (seat : ℕ) (r : Row). is_open r
