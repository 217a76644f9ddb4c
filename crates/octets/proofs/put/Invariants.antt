-- `put` meets its contract: the loop has pasted the first j bytes; a turn is `lib.Seq`'s `paste-suc`.
-- Assumes nothing.
use mathlib.Core.Path.{◌≡◌}
use Prim.Native.Nat.{◌-◌, ◌≤◌}
use lib.ListN.{length}
use lib.Seq.{paste}
use Rattle.octets.proofs.put.Given as goal

abbrev pub invariant-loop-j : goal.invariant-loop-j
invariant-loop-j l = (l.out ≡ paste l.initial.out l.at l.src l.j) × (l.j ≤ length l.src) × (length l.out ≡ length l.initial.out)

abbrev pub decreases-loop-j : goal.decreases-loop-j
decreases-loop-j l = length l.src - l.j
