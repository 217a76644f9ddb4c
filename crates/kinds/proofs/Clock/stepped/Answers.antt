-- `Clock::stepped` meets its contract: std's sum is there exactly where the two bytes hold it.
-- Assumes nothing.
use mathlib.Core.Path.{ap}
use Prim.Native.Nat.{◌≤◌, ◌<◌}
use native.Mathlib.Omega.{arith}
use borrow.Author.Tests.{lt-ltb, le-ltb}
use Rattle.kinds.specs.Clock.{most_ticks, clock_of, stepped}
use Rattle.kinds.proofs.Clock.stepped.Goals as goal

pub returns-in-Some : goal.returns-in-Some
unfolding most_ticks stepped
returns-in-Some c =
    let h : c.args.self.ticks < 65535 = omega (arith, c.in-Some.ensures) in
    rw (lt-ltb _ _ h) (ap clock_of c.in-Some.ensures.1)

pub returns-in-None : goal.returns-in-None
unfolding most_ticks stepped
returns-in-None c = let h : 65535 ≤ c.args.self.ticks = omega (arith, c.in-None.ensures) in simp (le-ltb _ _ h)
