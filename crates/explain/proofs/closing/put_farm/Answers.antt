-- `closing::put_farm` meets its contract.
-- Assumes nothing.
use Rattle.words.proofs.SaidLaws.{said-is, said_more}
use Rattle.explain.proofs.closing.put_farm.Goals as goal

pub returns : goal.returns
returns c = said_more (said-is c.farm.ensures c.say-p.ensures) c.words.ensures
