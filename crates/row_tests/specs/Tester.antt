-- Who is a farm's tester.
-- Assumes nothing: these are definitions.
use Rattle.std.specs.Prelude.{ℕ, Bool, List}
use Rattle.sheet.specs.Sheet.{testers_of}
use Rattle.sheet.specs.Find.{lookup}
use Rattle.model.specs.FarmSheet.{tester_by}

-- the address is that of a tester of farm f
abbrev pub tester_in : List ℕ → ℕ → ℕ → Bool
tester_in s f a = tester_by f (lookup a (testers_of s))
