-- `entry::put_spot` meets its contract.
-- Assumes nothing.
use Rattle.std.proofs.Common.{sym, ap, ◌∙◌}
use Rattle.words.proofs.SaidLaws.{said-is}
use Rattle.entries.specs.Entries.{spot_text}
use Rattle.entries.proofs.MessageLaws.{odd_entry-phrase}
use Rattle.entries.proofs.entry.put_spot.Goals as goal

pub returns-in-None : goal.returns-in-None
returns-in-None c = said-is (odd_entry-phrase ∙ sym (ap (spot_text c.args.s.now) c.in-None.is)) c.phrase.ensures
