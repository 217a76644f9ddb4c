-- `try_tick` meets its contract.
-- Assumes nothing.
use mathlib.Core.Path.{sym}
use Rattle.model.specs.Table.{least_output, tick}
use Rattle.lent.proofs.GateLaws.{gate_passes}
use Rattle.lent.proofs.CallLaws.{gate_passed_on}
use Rattle.serve.proofs.ServeLaws.{all_ready}
use Rattle.serve_tick.proofs.TickLaws.{tick-served}
use borrow.Author.Rules.{rules}
use Rattle.call_tick.proofs.try_tick.Goals as goal

pub returns-in_err-refusal : goal.returns-in_err-refusal
returns-in_err-refusal c = gate_passed_on _ _ _ _ tick _ _ c.in_err-refusal.ensures c.from_residual.ensures.1

pub tick_all-requires : goal.tick_all-requires
unfolding least_output
tick_all-requires c = let p = gate_passes _ _ _ _ (sym c.in_ok-refusal.ensures) in (all_ready _ _ _ _ p (search rules), p.lendable.output)

pub returns : goal.returns
returns c = tick-served _ _ _ _ (gate_passes _ _ _ _ (sym c.in_ok-refusal.ensures)) _ _ _ c.tick_all.ensures
