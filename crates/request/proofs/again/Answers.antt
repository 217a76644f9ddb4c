-- `again` meets its contract.
-- Assumes nothing.
use Rattle.model.specs.Line.{accepted}
use Rattle.request.proofs.RequestLaws.{again_same, again_other}
use Rattle.request.proofs.again.Goals as goal

pub returns-then-active-address : goal.returns-then-active-address
unfolding accepted
returns-then-active-address c = again_same _ _ c.if-active-address.true

pub returns : goal.returns
returns c = again_other _ _ c.if-active-address.false
