-- Refusals 1 to 4 on lent memory: the number that every call gives first of all, 0 where it goes on.
-- Assumes nothing: these are definitions.
use Rattle.std.specs.Prelude.{ℕ, ◌≤◌, ◌≡◌, true, List, eqb, leb, length}
use Rattle.octets.specs.Choice.{both, unless}
use Rattle.sheet.specs.Rules.{GoodSheet}
use Rattle.sheet.specs.Test.{good_sheet}
use Rattle.model.specs.Table.{least_output, assembling_size, good_table}
use Rattle.lent.specs.Lent.{whole_table, lent_table}

-- "1 to 4 hold for every call, but start skips 4."
unfoldable pub start_number : (s out m : List ℕ) → ℕ
start_number s out m = unless (good_sheet s) 1 (unless (leb least_output (length out)) 2 (unless (eqb (length m) assembling_size) 3 0))

unfoldable pub gate_number : (s t out m : List ℕ) → ℕ
gate_number s t out m =
    unless (good_sheet s) 1
    (unless (leb least_output (length out)) 2
    (unless (eqb (length m) assembling_size) 3 (unless (both (whole_table t) (good_table s (lent_table s t m))) 4 0)))

-- what a call knows that goes on
pub record Lendable (s out m : List ℕ) : Type 0 where
  pub sheet : GoodSheet s
  pub output : least_output ≤ length out
  pub assembling : length m ≡ assembling_size

pub record Passed (s t out m : List ℕ) : Type 0 where
  pub lendable : Lendable s out m
  pub whole : whole_table t ≡ true
  pub good : good_table s (lent_table s t m) ≡ true
