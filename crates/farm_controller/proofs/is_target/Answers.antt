-- `is_target` meets its contract.
-- Assumes nothing.
use Rattle.sheet.proofs.LengthLaws.{good_lengths}
use Rattle.farm_controller.proofs.is_target.Goals as goal

pub find_target-requires : goal.find_target-requires
find_target-requires c = (good_lengths _ c.requires).whole
