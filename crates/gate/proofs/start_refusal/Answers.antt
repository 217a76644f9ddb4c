-- `start_refusal` meets its contract.
-- Assumes nothing.
use mathlib.Core.Path.{◌∙◌}
use native.Mathlib.Omega.{arith}
use Rattle.sheet.proofs.TestLaws.{good-says}
use Rattle.model.specs.Table.{least_output, assembling_size}
use Rattle.octets.proofs.SaysLaws.{says_same}
use Rattle.lent.proofs.GateLaws.{number_1, number_2, number_3, number_0}
use Rattle.gate.proofs.start_refusal.Goals as goal

pub returns-then-not-sheet_ok : goal.returns-then-not-sheet_ok
returns-then-not-sheet_ok c = number_1 _ _ _ (says_same (good-says _) c.sheet_ok.ensures ∙ c.if-not-sheet_ok.true)

pub returns-then-out-lt-LEAST_OUTPUT : goal.returns-then-out-lt-LEAST_OUTPUT
unfolding least_output
returns-then-out-lt-LEAST_OUTPUT c = number_2 _ _ _ (says_same (good-says _) c.sheet_ok.ensures ∙ c.if-not-sheet_ok.false) (omega arith)

pub returns-then-m-ne-ASSEMBLING : goal.returns-then-m-ne-ASSEMBLING
unfolding least_output assembling_size
returns-then-m-ne-ASSEMBLING c = number_3 _ _ _ (says_same (good-says _) c.sheet_ok.ensures ∙ c.if-not-sheet_ok.false) (omega arith) c.if-m-ne-ASSEMBLING.true

pub returns : goal.returns
unfolding least_output assembling_size
returns c = number_0 _ _ _ (says_same (good-says _) c.sheet_ok.ensures ∙ c.if-not-sheet_ok.false) (omega arith) (omega arith)
