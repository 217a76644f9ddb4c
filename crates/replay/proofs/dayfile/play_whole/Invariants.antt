-- The invariant and the measure of the loop of `dayfile::play_whole`: a record that is found lies after the place.
-- Assumes nothing.
use Rattle.std.proofs.Common.{◌-◌, ◌≤◌, length}
use Rattle.replay.proofs.dayfile.play_whole.Given as goal

abbrev pub invariant-loop-found : goal.invariant-loop-found
invariant-loop-found g l = l.at ≤ length l.s

abbrev pub decreases-loop-found : goal.decreases-loop-found
decreases-loop-found g l = length l.s - l.at
