-- `is_tester` meets its contract.
-- Assumes nothing.
use Rattle.sheet.proofs.LengthLaws.{good_lengths}
use Rattle.row_tests.proofs.is_tester.Goals as goal

pub find_tester-requires : goal.find_tester-requires
find_tester-requires c = (good_lengths _ c.requires).whole
