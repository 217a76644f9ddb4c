-- `entry::put_line` meets its contract.
-- Assumes nothing.
use Rattle.std.proofs.Common.{ap}
use Rattle.words.proofs.SaidLaws.{said-is, said_more}
use Rattle.entries.specs.Entries.{spot_text}
use Rattle.entries.proofs.entry.put_line.Goals as goal

pub returns : goal.returns
returns c = said_more (said-is (ap (spot_text c.args.s.now) c.find.ensures.0) c.put_spot-p.ensures) c.words.ensures
