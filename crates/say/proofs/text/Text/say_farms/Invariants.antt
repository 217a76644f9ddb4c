-- What the loop keeps: the style.
use Rattle.std.proofs.Common.{◌≡◌}
use Rattle.say.proofs.text.Text.say_farms.Given as goal

abbrev pub invariant-loop-f : goal.invariant-loop-f
invariant-loop-f g l = l.self.style ≡ l.fn.self.style
