-- `close::at_limit` meets its contract.
-- Assumes nothing.
use Rattle.kinds.specs.Clock.{initial_limit, general_limit}
use Rattle.closing.proofs.close.at_limit.Goals as goal

pub returns-in-Fresh : goal.returns-in-Fresh
unfolding initial_limit
returns-in-Fresh c = simp c.in-Fresh.is

pub returns-in-Active : goal.returns-in-Active
unfolding general_limit
returns-in-Active c = simp c.in-Active.is
