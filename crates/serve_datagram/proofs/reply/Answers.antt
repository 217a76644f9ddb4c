-- `reply` meets its contract.
-- Assumes nothing.
use mathlib.Core.Path.{◌∙◌, ap}
use native.Mathlib.Omega.{arith}
use lib.ListN.{length}
use Rattle.model.specs.Move.{no_row}
use Rattle.serve.proofs.SaidLaws.{record_long, open_byte, answer_same, answer-room, answer_out}
use Rattle.serve_datagram.proofs.reply.Goals as goal

pub overflow_cast-n : goal.overflow_cast-n
overflow_cast-n c = omega (arith, c.open_rows-n.ensures, open_byte c.requires.0)

pub answer-a-requires : goal.answer-a-requires
answer-a-requires c = ap length c.record_of-farm.ensures ∙ record_long c.requires.0

pub finish-requires : goal.finish-requires
finish-requires c = answer-room _ _ _ c.answer-a.result c.requires.0 c.record_of-farm.ensures c.push_answer.ensures c.requires.1

pub returns : goal.returns
unfolding no_row
returns c =
    let e = answer_same _ c.record_of-farm.ensures c.open_rows-n.ensures c.answer-a.ensures in
    answer_out c.record_of-farm.ensures e c.push_answer.ensures c.finish.ensures.value c.finish.ensures.wrote
