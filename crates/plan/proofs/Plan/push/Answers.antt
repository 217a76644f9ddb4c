-- `Plan::push` meets its contract: an item behind the others and a count one higher, or a full plan.
-- Assumes nothing.
use mathlib.Core.Path.{refl, sym, ap, ◌∙◌}
use mathlib.Core.List.{List}
use Prim.Native.Nat.{ℕ, ◌+◌, ◌*◌}
use lib.ListN.{get_or}
use Rattle.octets.specs.Put.{put_at}
use Rattle.kinds.specs.declared.Item.{Item}
use Rattle.plan.specs.Plan.{item_size, pushed_to}
use Rattle.plan.proofs.PlanLaws.{push_full, push_more}
use Rattle.plan.proofs.Plan.push.Goals as goal

pub returns-else-n-lt-ROOM : goal.returns-else-n-lt-ROOM
returns-else-n-lt-ROOM c =
    let it : Item = c.args.it in
    sym c.self.view_is ∙ push_full c.self.inside.bytes it c.if-n-lt-ROOM.false ∙ ap (λ (items : List Item). pushed_to items it) c.self.view_is

pub returns-then-n-lt-ROOM : goal.returns-then-n-lt-ROOM
returns-then-n-lt-ROOM c =
    let p : List ℕ = c.self.inside.bytes in
    let it : Item = c.args.it in
    push_more p c.put.new.out _ it c.self.told c.if-n-lt-ROOM.true
    (c.put.ensures
    ∙ ap (λ (k : ℕ). put_at p (1 + k * item_size) c.item_bytes-s.result) c.from.ensures
    ∙ ap (put_at p (1 + get_or p 0 0 * item_size)) c.item_bytes-s.ensures)
    refl
    ∙ ap (λ (items : List Item). pushed_to items it) c.self.view_is
