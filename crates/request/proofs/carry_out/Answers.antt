-- `carry_out` meets its contract.
-- Assumes nothing.
use Rattle.request.proofs.carry_out.Goals as goal

pub returns-in-Now : goal.returns-in-Now
returns-in-Now c = rw c.in-Now.is c.answer.ensures

pub returns-in-Ask : goal.returns-in-Ask
returns-in-Ask c = rw c.in-Ask.is c.join_line.ensures
