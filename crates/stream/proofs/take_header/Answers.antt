-- `take_header` meets its contract: a run of header bytes at once.
-- Assumes nothing.
use Prim.Native.Nat.{ℕ, ◌+◌}
use mathlib.Core.Path.{◌≡◌, sym, ap, ◌∙◌}
use mathlib.Core.List.{List}
use native.Mathlib.Omega.{arith}
use lib.ListN.{length, drop, length-take}
use Rattle.kinds.specs.declared.Place.TheVariants.{Header}
use Rattle.wire.specs.Header.{header_at, verdict_of, header_size}
use Rattle.model.specs.Stream.{input_ended, stream_of, judged, taken, takes}
use Rattle.stream.specs.Took.{takes_after}
use Rattle.stream.proofs.RunLaws.{header_short, header_whole}
use borrow.Author.Rules.{rules}
use Rattle.stream.proofs.take_header.Goals as goal

pub slice_bounds-put-end-2 : goal.slice_bounds-put-end-2
slice_bounds-put-end-2 c = omega (arith, c.min-k.ensures, length-take c.min-k.result c.args.input.now)

pub put-requires : goal.put-requires
put-requires c =
    let m = c.min-k in
    omega (arith, m.ensures, length-take m.result c.args.input.now, let e : length c.args.head ≡ header_size = search rules in e, c.requires.1)

pub returns-then-left-k : goal.returns-then-left-k
returns-then-left-k c =
    let a = c.args in
    let m = c.min-k in
    let rest : List ℕ = drop m.result a.input.now in
    c.after_eighth.ensures
    ∙ ap (λ (x : List ℕ). takes_after m.result (judged (verdict_of (header_at x 0)) x a.room.now) (λ t. takes t rest)) c.put.ensures
    ∙ sym
    (header_whole a.head a.room.now (search rules) a.n m.result a.input.now m.ensures c.requires.1 c.if-left-k.true)

pub returns : goal.returns
returns c =
    let a = c.args in
    let m = c.min-k in
    ap (λ (x : List ℕ). taken m.result input_ended (stream_of (Header (a.n + m.result)) x a.room.now)) c.put.ensures
    ∙ sym (header_short a.head a.room.now (search rules) a.n m.result a.input.now m.ensures c.if-left-k.false)
