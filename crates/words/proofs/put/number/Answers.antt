-- `put::number` meets its contract.
-- Assumes nothing.
use Rattle.std.proofs.Common.{◌∙◌, arith}
use Rattle.lines.proofs.TextLaws.{decimal_of_std}
use Rattle.words.proofs.SaidLaws.{said-is}
use Rattle.words.proofs.put.number.Goals as goal

pub returns : goal.returns
returns c = said-is (c.as_bytes.ensures.value ∙ c.format.ensures.text ∙ decimal_of_std c.args.n (omega arith)) c.words.ensures
