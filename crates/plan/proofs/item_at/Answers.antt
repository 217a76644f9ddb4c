-- `item_at` meets its contract: the bytes that it reads are those of the item's part.
-- Assumes nothing.
use mathlib.Core.Path.{◌≡◌, refl, ap, ◌∙◌}
use mathlib.Core.List.{List}
use Prim.Native.Nat.{ℕ, ◌+◌, ◌*◌}
use lib.ListN.{get_or}
use Rattle.octets.specs.Numbers.{u16_at}
use Rattle.plan.specs.Plan.{item_size, reply_from}
use Rattle.plan.proofs.PlanLaws.{item_read}
use Rattle.plan.proofs.item_at.Goals as goal

pub returns : goal.returns
returns c =
    let p : List ℕ = c.args.p.now in
    let i : ℕ = c.args.i in
    let at : ℕ = 1 + i * item_size in
    let reply : c.reply_from.result ≡ reply_from (get_or p (at + 2) 0) (get_or p (at + 3) 0) (u16_at p (at + 4)) (u16_at p (at + 6)) =
    c.reply_from.ensures
    ∙ ap (λ (a : ℕ). reply_from (get_or p (at + 2) 0) (get_or p (at + 3) 0) a c.read16-b.result) c.read16-a.ensures
    ∙ ap (reply_from (get_or p (at + 2) 0) (get_or p (at + 3) 0) (u16_at p (at + 4))) c.read16-b.ensures
    in
    rw reply (item_read p i at refl)
