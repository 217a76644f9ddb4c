-- `idle_after` meets its contract.
-- Assumes nothing.
use Rattle.farm_heard.proofs.HeardLaws.{idle_kept, idle_anew}
use mathlib.Core.Path.{◌∙◌}
use Rattle.farm_heard.proofs.idle_after.Goals as goal

pub returns-then-count-eq0 : goal.returns-then-count-eq0
returns-then-count-eq0 c = idle_kept _ _ c.if-count-eq0.true

pub returns : goal.returns
returns c = c.fresh.ensures ∙ idle_anew _ _ c.if-count-eq0.false
