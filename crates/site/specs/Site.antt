-- What the line's rules look at of a farm's sheet: three numbers, read off the sheet once per call.
-- Assumes nothing: these are definitions.
use Rattle.std.specs.Prelude.{ℕ, ◌<◌, ◌≡◌, List}
use Rattle.kinds.specs.declared.Site.{Site}
use Rattle.sheet.specs.Sheet.{farm_count, entity_of, quota_of}
use Rattle.sheet.specs.Rows.{first_row}
use Rattle.sheet.specs.Rules.{GoodSheet}

unfoldable pub site_of : List ℕ → ℕ → Site
site_of s f = record { first = first_row s f; quota = quota_of s f; entity = entity_of s f }

-- the sheet is a good one and has this farm, and these are its three numbers
pub record Sited (s : List ℕ) (f : ℕ) (site : Site) : Type 0 where
  pub good : GoodSheet s
  pub has : f < farm_count s
  pub is : site ≡ site_of s f
