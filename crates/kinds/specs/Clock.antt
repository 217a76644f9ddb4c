-- Clocks: "Limits of 001 in ticks: initial 200, alive check 50, general 30,000."
-- Assumes nothing: these are definitions.
use Rattle.std.specs.Prelude.{ℕ, ◌+◌, Bool, true, false, ltb}
use Rattle.kinds.specs.declared.Clock.{Clock}

abbrev pub clock_of : ℕ → Clock
clock_of n = record { ticks = n }

unfoldable pub initial_limit : ℕ
initial_limit = 200

unfoldable pub check_limit : ℕ
check_limit = 50

unfoldable pub general_limit : ℕ
general_limit = 30000

-- the most that a clock's two bytes hold; it is never reached, for each limit is below it
unfoldable pub most_ticks : ℕ
most_ticks = 65535

abbrev pub stepped_if : Bool → Clock → Clock
stepped_if true c = clock_of (c.ticks + 1)
stepped_if false c = c

-- one tick later
unfoldable pub stepped : Clock → Clock
stepped c = stepped_if (ltb c.ticks most_ticks) c
