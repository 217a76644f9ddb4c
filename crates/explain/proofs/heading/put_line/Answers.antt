-- `heading::put_line` meets its contract.
-- Assumes nothing.
use Rattle.words.proofs.SaidLaws.{said-is, said_more}
use Rattle.explain.proofs.heading.put_line.Goals as goal

pub returns : goal.returns
returns c = said_more (said_more (said_more (said-is c.count.ensures c.say-p.ensures) (said-is c.about.ensures c.say-q.ensures)) (said-is c.answer.ensures c.say-r.ensures)) c.words.ensures
