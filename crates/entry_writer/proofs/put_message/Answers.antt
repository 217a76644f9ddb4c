-- `put_message` meets its contract: the head with the message's length, then the message.
-- Assumes nothing.
use mathlib.Core.Path.{refl, sym}
use native.Mathlib.Omega.{arith}
use Rattle.layout.specs.Layout.{message_bytes}
use Rattle.layout.proofs.MessageLaws.{length-message}
use Rattle.outsheet.proofs.SheetLaws.{entered}
use Rattle.entry_writer.proofs.put_message.Goals as goal

pub put_head-requires : goal.put_head-requires
put_head-requires c = omega (arith, length-message c.args.version c.args.controller c.args.tester c.args.user.now, c.requires.small, c.requires.wide)

pub put_message-requires : goal.put_message-requires
put_message-requires c = omega (arith, length-message c.args.version c.args.controller c.args.tester c.args.user.now, c.requires.small, c.requires.wide, c.put_head.auto.out)

pub overflow_add-result-2 : goal.overflow_add-result-2
overflow_add-result-2 c = omega (arith, length-message c.args.version c.args.controller c.args.tester c.args.user.now, c.requires.wide)

pub returns : goal.returns
returns c =
    let a = c.args in
    entered a.row.0 1 _ (message_bytes a.version a.controller a.tester a.user.now) a.out.now _ _ a.at _ _ (sym (length-message c.args.version c.args.controller c.args.tester c.args.user.now)) c.requires c.put_head.ensures refl c.put_message.ensures refl
