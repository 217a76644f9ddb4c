-- What a function that is lent a farm's block and the plan has done: the block means the farm that the model says, and the plan holds
-- what the model says more.
-- Assumes nothing: these are definitions.
use Rattle.std.specs.Prelude.{ℕ, ◌+◌, ◌<◌, ◌≤◌, ◌≡◌, List, [], ◌∷◌, get_or}
use Rattle.kinds.specs.declared.Item.{Item}
use Rattle.kinds.specs.declared.Site.{Site}
use Rattle.model.specs.Farm.{Done}
use Rattle.plan.specs.Plan.{pushed_to}
use Rattle.table.specs.Layout.{seats}
use Rattle.table.specs.Block.{farm_of, Whole}

-- the number of each of the farm's rows is a byte
abbrev pub RowsFit : Site → Type 0
RowsFit site = site.first + seats ≤ 256

-- each waiter has a seat of the block
pub record Seated (line : List ℕ) : Type 0 where
  pub each : (k : ℕ) → get_or line k 0 < seats

-- these items too, one after the other
unfoldable pub pushed_all : List Item → List Item → List Item
pushed_all items [] = items
pushed_all items (it ∷ more) = pushed_all (pushed_to items it) more

-- from a plan of the items p on, the block after and the plan after are what d says
pub record Did (p : List Item) (after : List ℕ) (plan : List Item) (d : Done) : Type 0 where
  pub is : farm_of after ≡ d.farm
  pub said : plan ≡ pushed_all p d.items
  pub whole : Whole after
