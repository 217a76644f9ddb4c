-- `fill::put_arg` meets its contract.
-- Assumes nothing.
use Rattle.words.proofs.SaidLaws.{said-nothing}
use Rattle.words.proofs.fill.put_arg.Goals as goal

pub returns-in-Blank : goal.returns-in-Blank
returns-in-Blank c = rw c.in-Blank.is said-nothing
