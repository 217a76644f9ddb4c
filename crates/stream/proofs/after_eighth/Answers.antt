-- `after_eighth` meets its contract: a header that passes goes on with its payload, a wrong one ends the call.
-- Assumes nothing.
use Rattle.std.proofs.Common.{Result}
use Rattle.kinds.specs.declared.Fault.{Fault}
use Prim.Native.Nat.{ℕ, ◌-◌}
use mathlib.Core.Path.{◌≡◌, sym, ap, ◌∙◌}
use mathlib.Core.List.{List}
use native.Mathlib.Omega.{arith}
use lib.ListN.{length, take, drop, length-take, length-drop}
use lib.Seq.{take_all}
use Rattle.kinds.specs.declared.Place.TheVariants.{Reading}
use Rattle.wire.specs.declared.header.Header.{Header as Head}
use Rattle.wire.specs.Header.{header_at, verdict_of, passed}
use Rattle.model.specs.Stream.{stream_of, judged, Taken, takes}
use Rattle.model.proofs.SoundStream.{passes-some}
use Rattle.stream.specs.declared.Took.{Took}
use Rattle.stream.specs.Took.{taken_of, further, takes_after}
use Rattle.stream.proofs.RunLaws.{takes_few}
use Rattle.stream.proofs.after_eighth.Goals as goal

-- in the arm of a header that passes
passes : (head : List ℕ) (h : Head) (v : Result Unit Fault) → h ≡ header_at head 0 → v ≡ verdict_of h → v ≡ passed → verdict_of (header_at head 0) ≡ passed
passes head h v e f is = sym (ap verdict_of e) ∙ sym f ∙ is

pub take_reading-requires : goal.take_reading-requires
take_reading-requires c =
    let v = passes c.args.head c.read.result c.judge.result c.read.ensures c.judge.ensures c.in-Ok.is in
    (c.requires.0, (passes-some (header_at c.args.head 0) v, v))

pub later-requires : goal.later-requires
later-requires c =
    let a = c.args in
    let rest : List ℕ = drop a.k a.input.now in
    let n : ℕ = length a.input.now - a.k in
    omega (
      arith,
      ap (λ (t : Taken). t.count) c.take_reading.ensures,
      takes_few (stream_of (Reading 0) a.head a.room.now) (take n rest),
      length-take n rest,
      length-drop a.k a.input.now,
    )

pub returns-in-Ok : goal.returns-in-Ok
returns-in-Ok c =
    let a = c.args in
    let w = c.take_reading in
    let rest : List ℕ = drop a.k a.input.now in
    ap (λ (t : Took). taken_of t w.new.room) c.later.ensures
    ∙ ap (further a.k) w.ensures
    ∙ ap (λ (l : List ℕ). further a.k (takes (stream_of (Reading 0) a.head a.room.now) l))
    (take_all (length a.input.now - a.k) rest (omega (arith, length-drop a.k a.input.now)))
    ∙ ap (λ (v : Result Unit Fault). takes_after a.k (judged v a.head a.room.now) (λ t. takes t rest)) (sym (passes c.args.head c.read.result c.judge.result c.read.ensures c.judge.ensures c.in-Ok.is))

pub returns-in-Err : goal.returns-in-Err
returns-in-Err c =
    let a = c.args in
    let rest : List ℕ = drop a.k a.input.now in
    c.after_wrong.ensures a.room.now
    ∙ ap (λ (v : Result Unit Fault). takes_after a.k (judged v a.head a.room.now) (λ t. takes t rest))
    (sym c.in-Err.is ∙ c.judge.ensures ∙ ap verdict_of c.read.ensures)
