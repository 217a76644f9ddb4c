-- `push_answer` meets its contract.
-- Assumes nothing.
use mathlib.Core.Path.{sym, ap, ◌∙◌}
use native.Mathlib.Omega.{arith}
use Rattle.plan.proofs.PlanLaws.{pushed_more}
use Rattle.model.specs.Move.{no_row, answers}
use Rattle.serve_datagram.proofs.push_answer.Goals as goal

pub returns-in-None : goal.returns-in-None
returns-in-None c = c.requires ∙ ap answers (sym c.in-None.is)

pub returns-in-Some : goal.returns-in-Some
unfolding no_row
returns-in-Some c = pushed_more _ (omega arith) c.requires c.push.ensures ∙ ap answers (sym c.in-Some.is)
