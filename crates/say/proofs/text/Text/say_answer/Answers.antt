-- `text::Text::say_answer` meets its contract.
-- Assumes nothing.
use Rattle.std.proofs.Common.{arith}
use Rattle.lines.proofs.LinesLaws.{length-answer}
use Rattle.say.proofs.text.Text.say_answer.Goals as goal

pub invariant_of-self : goal.invariant_of-self
invariant_of-self g c = record { within = omega (arith, length-answer) }
