-- `text::Text::say_last` meets its contract.
-- Assumes nothing.
use Rattle.std.proofs.Common.{arith}
use Rattle.lines.proofs.LinesLaws.{length_last_line}
use Rattle.say.proofs.text.Text.say_last.Goals as goal
use Rattle.say.proofs.text.Text.say_last.Goals.{in-Lines, in-Words}

pub invariant_of-self : goal.invariant_of-self
invariant_of-self g c =
    record { within = elim c.match-self.branch [ in-Lines w ↦ omega (arith, length_last_line) | in-Words w ↦ omega arith ] }
