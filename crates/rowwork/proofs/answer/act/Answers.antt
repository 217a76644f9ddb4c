-- `answer::act` meets its contract.
-- Assumes nothing.
use Rattle.rowwork.specs.Acted.{acted}
use Rattle.closing.proofs.DidLaws.{did_nothing}
use Rattle.rowwork.proofs.answer.act.Goals as goal

pub returns-in-Pending : goal.returns-in-Pending
unfolding acted
returns-in-Pending c = rw c.in-Pending.is (did_nothing c.args.p.now c.args.b.now c.requires.2)

pub returns-in-Answer : goal.returns-in-Answer
unfolding acted
returns-in-Answer c = rw c.in-Answer.is c.answer.ensures

pub returns-in-RunOut : goal.returns-in-RunOut
unfolding acted
returns-in-RunOut c = rw c.in-RunOut.is c.run_out.ensures
