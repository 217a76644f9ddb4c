-- `try_start` meets its contract.
-- Assumes nothing.
use mathlib.Core.Path.{sym}
use borrow.Author.Rules.{rules}
use Rattle.model.specs.Move.{no_row}
use Rattle.model.specs.Table.{least_output}
use Rattle.lent.proofs.GateLaws.{start_passes}
use Rattle.lent.proofs.CallLaws.{start_passed_on, start_done}
use Rattle.call_start.proofs.try_start.Goals as goal

pub returns-in_err-start_refusal : goal.returns-in_err-start_refusal
returns-in_err-start_refusal c = start_passed_on _ _ _ _ _ _ c.in_err-start_refusal.ensures c.from_residual.ensures.1

pub finish_empty-requires : goal.finish_empty-requires
unfolding least_output
finish_empty-requires c = (start_passes _ _ _ (sym c.in_ok-start_refusal.ensures)).output

pub returns : goal.returns
unfolding no_row
returns c =
    start_done _ _ _ _ _ _ _ _ (start_passes _ _ _ (sym c.in_ok-start_refusal.ensures)) (search rules) (search rules) c.finish_empty.ensures.value c.finish_empty.ensures.wrote
