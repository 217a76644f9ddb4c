-- `put` meets its contract: the loop has pasted the first j bytes; a turn is `lib.Seq`'s `paste-suc`.
-- Assumes nothing.
use mathlib.Core.Path.{◌≡◌, refl, sym, ap, ◌∙◌}
use mathlib.Core.List.{List, ◌++◌}
use Prim.Native.Nat.{ℕ, ◌+◌}
use native.Mathlib.Numerals.{add-one}
use native.Mathlib.Omega.{arith}
use lib.ListN.{length, get_or, take, drop, set, length-set}
use lib.Seq.{paste, paste-zero, paste-suc, take-length}
use Rattle.octets.specs.Put.{put_at}
use Rattle.octets.proofs.put.Goals as goal

pub loop-j-init : goal.loop-j-init
loop-j-init c = (paste-zero c.args.out.now c.args.at c.args.src.now, omega arith, refl)

pub loop-j-preserved : goal.loop-j-preserved
loop-j-preserved c =
    let a = c.args in
    let out = c.loop-j.out in
    let j = c.loop-j.j in
    let byte : ℕ = get_or a.src.now j 0 in (
      ap (λ (l : List ℕ). set l (a.at + j) byte) c.loop-j.invariant.0
          ∙ paste-suc a.out.now a.at a.src.now j 0 (omega arith) (omega arith)
          ∙ ap (λ (k : ℕ). paste a.out.now a.at a.src.now k) (sym (add-one j)),
      omega arith,
      length-set out (a.at + j) byte ∙ c.loop-j.invariant.2,
    )

pub shape_of-out : goal.shape_of-out
shape_of-out c = c.loop-j.invariant.2

pub returns : goal.returns
unfolding put_at
returns c =
    let a = c.args in
    let j = c.loop-j.j in
    let all : j ≡ length a.src.now = omega arith in
    c.loop-j.invariant.0
    ∙ ap (λ (k : ℕ). paste a.out.now a.at a.src.now k) all
    ∙ ap (λ (l : List ℕ). take a.at a.out.now ++ l ++ drop (a.at + length a.src.now) a.out.now) (take-length a.src.now)
