-- The numbers of the refusals, 1 to 10; "Answer 0 is done".
-- Assumes nothing: these are definitions.
use Rattle.std.specs.Prelude.{ℕ, Result, Ok, Err}
use Rattle.kinds.specs.declared.Refusal.{Refusal}
use Rattle.kinds.specs.declared.Refusal.TheVariants.{SheetBroken, OutputShort, AssemblingWrong, TableBroken, FarmUnknown, RowNotOpen, RowWaits, NoFreeRow, UserUnfit, EndsUnknown}

abbrev pub refusal_number : Refusal → ℕ
refusal_number SheetBroken = 1
refusal_number OutputShort = 2
refusal_number AssemblingWrong = 3
refusal_number TableBroken = 4
refusal_number FarmUnknown = 5
refusal_number RowNotOpen = 6
refusal_number RowWaits = 7
refusal_number NoFreeRow = 8
refusal_number UserUnfit = 9
refusal_number EndsUnknown = 10

-- of what was done or refused
abbrev pub number_in : {A : Type 0} → Result A Refusal → ℕ
number_in (Ok a) = 0
number_in (Err why) = refusal_number why
