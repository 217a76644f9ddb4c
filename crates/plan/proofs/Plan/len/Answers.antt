-- `Plan::len` meets its contract: the smaller of the first byte and the room is the number of items.
-- Assumes nothing.
use mathlib.Core.Path.{sym, ap, ◌∙◌}
use mathlib.Core.List.{List}
use lib.ListN.{length}
use Rattle.kinds.specs.declared.Item.{Item}
use Rattle.plan.proofs.PlanLaws.{count-items}
use Rattle.plan.proofs.Plan.len.Goals as goal

pub returns-clause-is : goal.returns-clause-is
returns-clause-is c =
    c.from.ensures ∙ c.min.ensures ∙ sym (count-items c.self.inside.bytes) ∙ ap (λ (items : List Item). length items) c.self.view_is
