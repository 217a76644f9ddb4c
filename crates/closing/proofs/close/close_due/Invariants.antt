-- `close::close_due`: the test that its closure decides.
-- Assumes nothing.
use Rattle.std.proofs.Common.{ℕ}
use Rattle.kinds.specs.declared.Row.{Row}
use Rattle.model.specs.Row.{at_limit}
use Rattle.closing.proofs.close.close_due.Given as goal

abbrev pub ghost-close_where : goal.ghost-close_where
ghost-close_where a = λ (seat : ℕ) (r : Row). at_limit r
