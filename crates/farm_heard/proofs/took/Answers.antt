-- `took` meets its contract.
-- Assumes nothing.
use Rattle.farm_heard.proofs.HeardLaws.{took_wraps}
use mathlib.Core.Path.{◌∙◌}
use Rattle.farm_heard.proofs.took.Goals as goal

pub returns : goal.returns
returns c = c.took.ensures ∙ took_wraps c.args.count c.args.m
