-- The invariant and the measure of the loop of `text::put_hex`.
-- Assumes nothing.
use mathlib.Core.Path.{◌≡◌}
use Prim.Native.Nat.{◌-◌, ◌≤◌}
use lib.ListN.{length, take}
use Rattle.octets.specs.Put.{put_at}
use Rattle.lines.specs.Text.{hex}
use Rattle.lines.proofs.text.put_hex.Given as goal

abbrev pub invariant-loop-j : goal.invariant-loop-j
invariant-loop-j l = (l.out ≡ put_at l.initial.out l.at (hex (take l.j l.bytes))) × (l.j ≤ length l.bytes) × (length l.out ≡ length l.initial.out)

abbrev pub decreases-loop-j : goal.decreases-loop-j
decreases-loop-j l = length l.bytes - l.j
