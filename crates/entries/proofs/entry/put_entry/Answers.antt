-- `entry::put_entry` meets its contract.
-- Assumes nothing.
use Rattle.words.proofs.SaidLaws.{said-is, said_more}
use Rattle.entries.proofs.entry.put_entry.Goals as goal

pub returns : goal.returns
returns c = said_more (said-is c.to.ensures c.say-p.ensures) c.put_what.ensures
