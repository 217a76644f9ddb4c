-- The rules of the sheet's three sections, of which "the three sections follow in that order without gaps": the farms stand behind the header, the
-- testers behind the farms, the targets behind the testers.
-- Assumes nothing: this is a definition.
use Rattle.std.specs.Prelude.{List, ℕ, ◌+◌, ◌*◌}
use Rattle.sheet.specs.Sheet.{known_size, farm_at, tester_flag, target_flag}
use Rattle.sheet.specs.Rules.{GoodFarms, GoodSection}

pub record GoodSections (s : List ℕ) (farms testers targets : ℕ) : Type 0 where
  pub farms_good : GoodFarms s farms
  pub testers_good : GoodSection s (farm_at farms) testers farms tester_flag
  pub targets_good : GoodSection s (farm_at farms + testers * known_size) targets farms target_flag
