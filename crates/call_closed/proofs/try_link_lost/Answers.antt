-- `try_link_lost` meets its contract.
-- Assumes nothing.
use Rattle.model.specs.Table.{link_lost_of, whose, least_output}
use mathlib.Core.Path.{refl, sym, ◌∙◌}
use borrow.Author.Tests.{ltb-true, ltb-false}
use Rattle.sheet.proofs.LengthLaws.{good_lengths}
use Rattle.lent.proofs.GateLaws.{gate_passes}
use Rattle.lent.proofs.CallLaws.{refused_as, gate_passed_on}
use Rattle.model.specs.Move.{link_lost}
use Rattle.serve.proofs.ServeLaws.{ready_of, farm_unknown_lem}
use Rattle.serve.proofs.CallsLaws.{link_served}
use borrow.Author.Rules.{rules}
use Rattle.call_closed.proofs.try_link_lost.Goals as goal

pub returns-in_err-refusal : goal.returns-in_err-refusal
returns-in_err-refusal c = gate_passed_on _ _ _ _ (link_lost_of c.args.f.0) _ _ c.in_err-refusal.ensures c.from_residual.ensures.1

pub has_farm-requires : goal.has_farm-requires
has_farm-requires c = (good_lengths _ (gate_passes _ _ _ _ (sym c.in_ok-refusal.ensures)).lendable.sheet).header

pub returns-then-not-has_farm : goal.returns-then-not-has_farm
unfolding whose
returns-then-not-has_farm c = refused_as _ _ 5 _ _ refl (farm_unknown_lem _ _ _ _ (gate_passes _ _ _ _ (sym c.in_ok-refusal.ensures)) (search rules) _ _ link_lost refl (ltb-false _ _ (sym c.has_farm.ensures ∙ c.if-not-has_farm.true)))

pub close_farm-requires : goal.close_farm-requires
unfolding least_output
close_farm-requires c = (ready_of _ _ _ _ (gate_passes _ _ _ _ (sym c.in_ok-refusal.ensures)) (search rules) _ (ltb-true _ _ (sym c.has_farm.ensures ∙ c.if-not-has_farm.false)), (gate_passes _ _ _ _ (sym c.in_ok-refusal.ensures)).lendable.output)

pub returns : goal.returns
returns c = link_served _ _ _ _ (gate_passes _ _ _ _ (sym c.in_ok-refusal.ensures)) (search rules) _ _ _ _ (ltb-true _ _ (sym c.has_farm.ensures ∙ c.if-not-has_farm.false)) c.close_farm.ensures
