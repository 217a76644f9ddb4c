-- `take_reading` meets its contract: a run of payload bytes at once.
-- Assumes nothing.
use Prim.Native.Nat.{ℕ, ◌+◌, ◌≤◌, ◌<◌}
use mathlib.Core.Path.{◌≡◌, sym, ap, ◌∙◌}
use mathlib.Core.List.{List}
use native.Mathlib.Omega.{arith}
use lib.ListN.{length, length-take}
use Rattle.wire.specs.declared.header.Header.{Header as Head}
use Rattle.wire.specs.Header.{header_at, most_payload}
use Rattle.model.specs.Rule.{PossibleAt}
use Rattle.wire.proofs.HeaderLaws.{passes-all}
use Rattle.kinds.specs.declared.Place.TheVariants.{Reading}
use Rattle.model.specs.Stream.{input_ended, finished, stream_of, rested, taken}
use Rattle.stream.specs.declared.Took.{Took}
use Rattle.stream.specs.Took.{taken_of}
use Rattle.stream.proofs.RunLaws.{reading_short, reading_whole}
use Rattle.stream.proofs.take_reading.Goals as goal

-- a payload whose header passed has room
has_room : (n : ℕ) (head room : List ℕ) (h : Head) → h ≡ header_at head 0 → length room ≡ most_payload → PossibleAt (Reading n) head
    → h.length ≤ length room
has_room n head room h e l q =
    let p = passes-all (header_at head 0) q.1 in
    omega (arith, ap (λ (h : Head). h.length) e, p.short, l)

unfinished : (n : ℕ) (head : List ℕ) (h : Head) → h ≡ header_at head 0 → PossibleAt (Reading n) head → n < h.length
unfinished n head h e q = omega (arith, ap (λ (h : Head). h.length) e, q.0)

pub overflow_sub-left : goal.overflow_sub-left
overflow_sub-left c = omega (arith, unfinished c.args.n c.args.head c.read-h.result c.read-h.ensures c.requires.1)

pub slice_bounds-store-end : goal.slice_bounds-store-end
slice_bounds-store-end c = omega (arith, c.min-k.ensures, length-take c.min-k.result c.args.input.now)

pub store-requires : goal.store-requires
store-requires c =
    let m = c.min-k in
    omega (arith, m.ensures, length-take m.result c.args.input.now, unfinished c.args.n c.args.head c.read-h.result c.read-h.ensures c.requires.1, has_room c.args.n c.args.head c.args.room.now c.read-h.result c.read-h.ensures c.requires.0 c.requires.1)

pub returns-then-left-k : goal.returns-then-left-k
returns-then-left-k c =
    let a = c.args in
    let m = c.min-k in
    let w = c.store in
    let e = finished c.read-h.result.kind c.read-h.result.length in
    ap (λ (t : Took). taken_of t w.new.room) c.rested.ensures
    ∙ ap (λ (x : List ℕ). taken m.result e (rested x)) w.ensures
    ∙ sym
    (reading_whole a.head a.room.now c.read-h.result c.read-h.ensures a.n m.result a.input.now m.ensures (λ _. has_room c.args.n c.args.head c.args.room.now c.read-h.result c.read-h.ensures c.requires.0 c.requires.1)
    (unfinished c.args.n c.args.head c.read-h.result c.read-h.ensures c.requires.1) c.if-left-k.true)

pub returns : goal.returns
returns c =
    let a = c.args in
    let m = c.min-k in
    ap (λ (x : List ℕ). taken m.result input_ended (stream_of (Reading (a.n + m.result)) a.head x)) c.store.ensures
    ∙ sym
    (reading_short a.head a.room.now c.read-h.result c.read-h.ensures a.n m.result a.input.now m.ensures (λ _. has_room c.args.n c.args.head c.args.room.now c.read-h.result c.read-h.ensures c.requires.0 c.requires.1)
    c.if-left-k.false)
