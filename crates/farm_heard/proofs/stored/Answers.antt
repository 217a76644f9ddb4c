-- `stored` meets its contract.
-- Assumes nothing.
use Rattle.farm_heard.proofs.HeardLaws.{stored-yes, stored_no}
use mathlib.Core.Path.{sym, ◌∙◌}
use Rattle.farm_heard.proofs.stored.Goals as goal

pub returns-then-is_stored : goal.returns-then-is_stored
returns-then-is_stored c = stored-yes c.args.kind c.args.size (sym c.is_stored.ensures ∙ c.if-is_stored.true)

pub returns : goal.returns
returns c = stored_no c.args.kind c.args.size (sym c.is_stored.ensures ∙ c.if-is_stored.false)
