-- `send` meets its contract.
-- Assumes nothing.
use Rattle.std.proofs.lemmas.Result.{err_from_is_err_and}
use mathlib.Core.Path.{refl}
use Rattle.model.specs.Move.{no_row}
use Rattle.lent.proofs.CallLaws.{above_0}
use Rattle.serve.proofs.MovedLaws.{ready_below}
use Rattle.serve.proofs.SaidLaws.{message-refused, message-room, message_out}
use Rattle.serve_controller.proofs.send.Goals as goal

pub message_at-requires : goal.message_at-requires
message_at-requires c = (ready_below c.requires.0, c.requires.0.long, c.site_of-site.ensures)

pub returns-in_err-message_at : goal.returns-in_err-message_at
returns-in_err-message_at c =
    let p = err_from_is_err_and c.from_residual.result c.from_residual.ensures.1 in
    rw (p.1, p.2) (message-refused c.in_err-message_at.ensures (above_0 c.in_err-message_at.field-0.0) refl)

pub finish-requires : goal.finish-requires
finish-requires c = message-room c.in_ok-message_at.ensures _ refl c.new-p.ensures c.requires.1

pub returns : goal.returns
unfolding no_row
returns c = message_out c.in_ok-message_at.ensures refl c.new-p.ensures c.finish.ensures.value c.finish.ensures.wrote
