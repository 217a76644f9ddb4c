-- `Plan::item` meets its contract: the item at a place of the bytes is the plan's, below the count.
-- Assumes nothing.
use mathlib.Core.Path.{◌≡◌, sym, subst, ◌∙◌}
use mathlib.Core.List.{List}
use Prim.Native.Nat.{◌<◌}
use lib.ListN.{length, get_or}
use Rattle.kinds.specs.declared.Item.{Item}
use Rattle.plan.specs.Plan.{no_item}
use Rattle.plan.proofs.PlanLaws.{item_said}
use Rattle.plan.proofs.Plan.item.Goals as goal

pub returns : goal.returns
returns c =
    subst (λ (items : List Item). c.args.i < length items → c.item_at.result ≡ get_or items c.args.i no_item) c.self.view_is
    (λ h. c.item_at.ensures ∙ sym (item_said c.self.inside.bytes c.args.i h))
