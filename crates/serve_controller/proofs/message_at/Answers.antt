-- `message_at` meets its contract.
-- Assumes nothing.
use Rattle.std.proofs.Common.{rules}
use Prim.Native.Nat.{ℕ}
use mathlib.Core.Path.{subst}
use mathlib.Core.List.{List}
use Rattle.kinds.specs.declared.Item.{Item}
use Rattle.table.specs.Block.{farm_of}
use Rattle.lent.specs.Lent.{block}
use Rattle.farm_controller.specs.Message.{Messaged}
use Rattle.serve.proofs.BlockLaws.{Ends, lent_block, lent_is}
use Rattle.serve_controller.proofs.message_at.Goals as goal

-- what is true of the bytes that were lent is true of the farm's block, where they are that block
of_block : (s t : List ℕ) (f from to : ℕ) (p q : List Item) (user : List ℕ) (n a e : ℕ)
    → Messaged s f (farm_of (lent_block t a e)) p q from to user n → Ends f a e → Messaged s f (farm_of (block t f)) p q from to user n
of_block s t f from to p q user n a e m k = subst (λ (b : List ℕ). Messaged s f (farm_of b) p q from to user n) (lent_is t f a e k) m

pub returns : goal.returns
returns c =
    let x = c.args in
    of_block x.s.now x.t.now x.f.0 x.from x.to x.p.now c.message.new.p x.user.now _ _ _ c.message.ensures (search rules)
