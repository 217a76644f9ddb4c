-- What the loop keeps: the style.
use Rattle.std.proofs.Common.{◌≡◌}
use Rattle.say.proofs.text.Text.tell_entries.Given as goal

abbrev pub invariant-loop-i : goal.invariant-loop-i
invariant-loop-i g l = l.self.style ≡ l.fn.self.style
