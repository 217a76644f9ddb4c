-- `take_skipping` meets its contract, whatever the room holds: a run of payload bytes at once, none of them stored.
-- Assumes nothing.
use Prim.Native.Nat.{ℕ, ◌<◌}
use mathlib.Core.List.{List}
use Rattle.wire.specs.Header.{header_at}
use Rattle.kinds.specs.declared.Place.TheVariants.{Skipping}
use Rattle.model.specs.Rule.{PossibleAt}
use mathlib.Core.Path.{◌≡◌, sym, ap, ◌∙◌}
use native.Mathlib.Omega.{arith}
use Rattle.wire.specs.declared.header.Header.{Header as Head}
use Rattle.stream.specs.declared.Took.{Took}
use Rattle.stream.specs.Took.{taken_of}
use Rattle.stream.proofs.RunLaws.{skipping_short, skipping_whole}
use Rattle.stream.proofs.take_skipping.Goals as goal

unfinished : (n : ℕ) (head : List ℕ) (h : Head) → h ≡ header_at head 0 → PossibleAt (Skipping n) head → n < h.length
unfinished n head h e q = omega (arith, ap (λ (h : Head). h.length) e, q.0)

pub overflow_sub-left : goal.overflow_sub-left
overflow_sub-left c = omega (arith, unfinished c.args.n c.args.head c.read-h.result c.read-h.ensures c.requires)

pub returns-then-left-k : goal.returns-then-left-k
returns-then-left-k c =
    let a = c.args in
    let m = c.min-k in
    λ room.
    ap (λ (t : Took). taken_of t room) c.rested.ensures
    ∙ sym
    (skipping_whole a.head room c.read-h.result c.read-h.ensures a.n m.result a.input.now m.ensures (unfinished c.args.n c.args.head c.read-h.result c.read-h.ensures c.requires)
    c.if-left-k.true)

pub returns : goal.returns
returns c =
    let a = c.args in
    let r = c.read-h in
    let m = c.min-k in
    λ room. sym (skipping_short a.head room r.result r.ensures a.n m.result a.input.now m.ensures c.if-left-k.false)
