-- `code_for` meets its contract.
-- Assumes nothing.
use Rattle.sheet.proofs.LengthLaws.{good_lengths}
use Rattle.diagnostic.proofs.code_for.Goals as goal

pub find_target-requires : goal.find_target-requires
find_target-requires c = (good_lengths _ c.requires).whole
