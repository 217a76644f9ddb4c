-- The measures of `settle::decide_head` and `settle::advance_line`: each call has fewer waiters, or as many and the head gone.
-- Assumes nothing.
use Rattle.std.proofs.Common.{length, ◌*◌, ◌+◌}
use Rattle.table.specs.Block.{farm_of}
use Rattle.line.proofs.settle.+advance_line_decide_head.Given as goal

abbrev pub decreases-advance_line : goal.decreases-advance_line
decreases-advance_line l = 2 * length (farm_of l.b.now).line

abbrev pub decreases-decide_head : goal.decreases-decide_head
decreases-decide_head l = 2 * length (farm_of l.b.now).line + 1
