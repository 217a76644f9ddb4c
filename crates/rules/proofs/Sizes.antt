-- What a block's farm has, so many rows and so many marks, and what its line's head is asked.
-- Assumes nothing.
use Rattle.decide.proofs.RowLaws.{nine}
use Rattle.row_rules.proofs.FarmLaws.{head_carried}
use Rattle.table.proofs.MarkLaws.{marks-seats}

pub ruleset long = (nine, marks-seats, head_carried)
