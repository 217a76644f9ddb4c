-- `advance` meets its contract.
-- Assumes nothing.
use Rattle.model.specs.Line.{started, advanced}
use Rattle.decide.specs.SiteSheet.{site_sheet}
use Rattle.closing.proofs.DidLaws.{did_after}
use Rattle.alive.proofs.advance.Goals as goal

pub returns : goal.returns
unfolding advanced
returns c = did_after (started (site_sheet c.args.site)) c.pop.ensures c.start.ensures
