-- `put::words_bytes` meets its contract.
-- Assumes nothing.
use Rattle.words.proofs.SaidLaws.{said_more}
use Rattle.words.proofs.put.words_bytes.Goals as goal

pub returns : goal.returns
returns c = said_more c.words-a.ensures c.bytes.ensures
