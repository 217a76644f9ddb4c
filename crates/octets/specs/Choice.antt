-- Choosing by a test, and tests made of tests.
-- Assumes nothing: these are definitions.
use Rattle.std.specs.Prelude.{ℕ, Bool, true, false}

-- the first where the test holds, else the second
abbrev pub pick : {A : Type 0} → Bool → A → A → A
pick true a b = a
pick false a b = b

abbrev pub both : Bool → Bool → Bool
both true b = b
both false b = false

abbrev pub either : Bool → Bool → Bool
either true b = true
either false b = b

-- the first where the test fails, else the second: a list of rules, the first that is broken decides
abbrev pub unless : {A : Type 0} → Bool → A → A → A
unless true a b = b
unless false a b = a

-- a test as a number, for counting
abbrev pub one : Bool → ℕ
one true = 1
one false = 0
