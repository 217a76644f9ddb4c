-- `Plan::new` meets its contract: a plan whose count is 0 says nothing.
-- Assumes nothing.
use mathlib.Core.Path.{refl}
use Rattle.plan.proofs.PlanLaws.{none_said}
use Rattle.plan.proofs.Plan.new.Goals as goal

pub returns : goal.returns
returns c = none_said _ refl
