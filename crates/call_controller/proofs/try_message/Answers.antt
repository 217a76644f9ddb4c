-- `try_message` meets its contract.
-- Assumes nothing.
use mathlib.Core.Path.{sym, refl, ◌∙◌}
use borrow.Author.Tests.{ltb-true, ltb-false}
use Rattle.sheet.proofs.LengthLaws.{good_lengths}
use Rattle.model.specs.Move.{controller}
use Rattle.model.specs.Table.{message_from, least_output, whose}
use Rattle.lent.proofs.GateLaws.{gate_passes}
use Rattle.lent.proofs.CallLaws.{refused_as, gate_passed_on}
use Rattle.serve.proofs.ServeLaws.{ready_of, farm_unknown_lem}
use Rattle.serve.proofs.SaidLaws.{message-served}
use borrow.Author.Rules.{rules}
use Rattle.call_controller.proofs.try_message.Goals as goal

pub returns-in_err-refusal : goal.returns-in_err-refusal
returns-in_err-refusal c = gate_passed_on _ _ _ _ (message_from c.args.f.0 c.args.controller c.args.tester c.args.user.now) _ _ c.in_err-refusal.ensures c.from_residual.ensures.1

pub has_farm-requires : goal.has_farm-requires
has_farm-requires c = (good_lengths _ (gate_passes _ _ _ _ (sym c.in_ok-refusal.ensures)).lendable.sheet).header

pub returns-then-not-has_farm : goal.returns-then-not-has_farm
unfolding whose
returns-then-not-has_farm c = let a = c.args in
    refused_as _ _ 5 _ _ refl (farm_unknown_lem _ _ _ _ (gate_passes _ _ _ _ (sym c.in_ok-refusal.ensures)) (search rules) (message_from a.f.0 a.controller a.tester a.user.now) a.f.0 (controller a.controller a.tester a.user.now) refl (ltb-false _ _ (sym c.has_farm.ensures ∙ c.if-not-has_farm.true)))

pub send-requires : goal.send-requires
unfolding least_output
send-requires c = (ready_of _ _ _ _ (gate_passes _ _ _ _ (sym c.in_ok-refusal.ensures)) (search rules) _ (ltb-true _ _ (sym c.has_farm.ensures ∙ c.if-not-has_farm.false)), (gate_passes _ _ _ _ (sym c.in_ok-refusal.ensures)).lendable.output)

pub returns : goal.returns
returns c = let a = c.args in
    message-served _ _ _ _ (gate_passes _ _ _ _ (sym c.in_ok-refusal.ensures)) (search rules) _ (ltb-true _ _ (sym c.has_farm.ensures ∙ c.if-not-has_farm.false)) _ _ a.user.now _ _ c.send.ensures
