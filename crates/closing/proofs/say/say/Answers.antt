-- `say::say` meets its contract.
-- Assumes nothing.
use Rattle.decide.specs.SiteSheet.{site_sheet}
use Rattle.closing.proofs.say.say.Goals as goal

pub returns : goal.returns
unfolding site_sheet
returns c = rw c.wide.ensures at c.push.ensures
