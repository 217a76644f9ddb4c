-- `ask_by` meets its contract.
-- Assumes nothing.
use Rattle.closing.proofs.DidLaws.{did_nothing}
use Rattle.alive.proofs.ask_by.Goals as goal

pub returns-in-Now : goal.returns-in-Now
returns-in-Now c = rw c.in-Now.is (did_nothing c.args.p.now c.args.b.now c.requires.1)

pub returns-in-Ask : goal.returns-in-Ask
returns-in-Ask c = rw c.in-Ask.is c.ask.ensures
